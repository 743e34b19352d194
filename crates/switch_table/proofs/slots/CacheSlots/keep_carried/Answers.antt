use Rattle.std.proofs.Common.{◌∙◌, ◌≡◌, ap, filter, rules}
use Rattle.indexmap.proofs.CallerLemmas.{filter-RetainsPairs}
use Rattle.switch_table.specs.Exports.{KeyedCacheEntry, is_carried_cache_key, live_cache_pairs}
use Rattle.switch_table.proofs.CacheSlotRemovals.{is_kept, kept_pairs, kept_slots}
use Rattle.switch_table.proofs.slots.CacheSlots.keep_carried.Goals as goal
use Rattle.switch_table.proofs.slots.CacheSlots.keep_carried.Goals.{After-retain}

kept : (c : After-retain) → c.retain.new.self.entries
    ≡ filter (is_kept (is_carried_cache_key c.args.number c.args.touched.now)) c.self.inside.map.entries
kept c = search (rules, filter-RetainsPairs)

pub invariant_of-self : goal.invariant_of-self
invariant_of-self c = kept_slots (is_carried_cache_key c.args.number c.args.touched.now) c.fill_cache_blocks.new.self
    c.self.inside.map.entries c.retain.new.self.entries c.len.result
    (kept (goal.at.invariant_of-self c).After-retain) c.len.ensures.len c.fill_cache_blocks.ensures
    c.self.invariant.named

pub returns : goal.returns
returns c = ap live_cache_pairs (kept (goal.at.returns c).After-retain)
    ∙ kept_pairs (is_carried_cache_key c.args.number c.args.touched.now) c.self.inside.map.entries
    ∙ ap (filter (λ (pair : KeyedCacheEntry). is_carried_cache_key c.args.number c.args.touched.now pair.0))
    c.self.view_is
