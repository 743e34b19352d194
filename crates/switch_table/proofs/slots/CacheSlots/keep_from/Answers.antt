use Rattle.std.proofs.Common.{◌∙◌, ◌≡◌, ap, filter, leb, rules}
use Rattle.indexmap.proofs.CallerLemmas.{filter-RetainsPairs}
use Rattle.switch_table.specs.Exports.{KeyedCacheEntry, live_cache_pairs}
use Rattle.switch_table.specs.declared.key.CacheKey.{CacheKey}
use Rattle.switch_table.proofs.CacheSlotRemovals.{is_kept, kept_pairs, kept_slots}
use Rattle.switch_table.proofs.slots.CacheSlots.keep_from.Goals as goal
use Rattle.switch_table.proofs.slots.CacheSlots.keep_from.Goals.{After-retain}

kept : (c : After-retain) → c.retain.new.self.entries
    ≡ filter (is_kept (λ (key : CacheKey). leb c.args.number key.number)) c.self.inside.map.entries
kept c = search (rules, filter-RetainsPairs)

pub invariant_of-self : goal.invariant_of-self
invariant_of-self c = kept_slots (λ (key : CacheKey). leb c.args.number key.number) c.fill_cache_blocks.new.self
    c.self.inside.map.entries c.retain.new.self.entries c.len.result
    (kept (goal.at.invariant_of-self c).After-retain) c.len.ensures.len c.fill_cache_blocks.ensures
    c.self.invariant.named

pub returns : goal.returns
returns c = ap live_cache_pairs (kept (goal.at.returns c).After-retain)
    ∙ kept_pairs (λ (key : CacheKey). leb c.args.number key.number) c.self.inside.map.entries
    ∙ ap (filter (λ (pair : KeyedCacheEntry). leb c.args.number pair.0.number)) c.self.view_is
