use Rattle.std.proofs.Common.{◌∙◌, ap, subst}
use Rattle.switch_table.specs.Exports.{HaveOwnCacheKeys, equal_cache_keys, live_cache_pairs}
use Rattle.switch_table.proofs.CacheSlotPushes.{distinct_live}
use Rattle.switch_table.proofs.CacheSlotRemovals.{past_dead}
use Rattle.switch_table.proofs.slots.CacheSlots.iter.Goals as goal

pub returns-clause-pairs : goal.returns-clause-pairs
returns-clause-pairs c =
    c.new.ensures ∙ ap live_cache_pairs (c.iter.ensures.rest ∙ c.switch_cache_slots_from.ensures.slots)
    ∙ past_dead c.self.inside.first c.self.inside.map.entries c.self.invariant.dead ∙ c.self.view_is

pub returns-clause-distinct : goal.returns-clause-distinct
unfolding equal_cache_keys
returns-clause-distinct c = subst HaveOwnCacheKeys c.self.view_is
    (distinct_live c.self.inside.map.entries c.switch_cache_slots_from.ensures.unique)
