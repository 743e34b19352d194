use Rattle.std.proofs.Common.{◌+◌, ◌∙◌, ◌≡◌, ap, filter, leb, rules}
use Rattle.switch_table.specs.Exports.{KeyedCacheEntry, cache_after_raise, kept_cache_entries}
use Rattle.switch_table.proofs.CachePairs.{entries_from, holds_from}
use Rattle.switch_table.proofs.cache.Cache.raise.Goals as goal
use Rattle.switch_table.proofs.cache.Cache.raise.Goals.{After-keep_from}

kept : (c : After-keep_from) → c.keep_from.new.self ≡ filter (λ (pair : KeyedCacheEntry). leb
    (c.args.stamp + c.self.inside.shift) pair.0.number) c.self.inside.slots
kept c = search rules

pub invariant_of-self : goal.invariant_of-self
invariant_of-self c = rw c.wait_for.ensures (holds_from _ _ _ _ c.args.stamp _ _ c.self.invariant
    (kept (goal.at.invariant_of-self c).After-keep_from))

pub returns : goal.returns
returns c =
    let shift = c.self.inside.shift in
    let left = ap (kept_cache_entries shift) (kept (goal.at.returns c).After-keep_from)
    ∙ entries_from shift c.args.stamp c.self.inside.slots c.self.invariant.versions in
    (λ i. record { entries = left i; capacity = c.self.inside.capacity })
    ∙ ap (cache_after_raise c.args.stamp) c.self.view_is
