use Rattle.std.proofs.Common.{ap, arith, length, subst}
use Rattle.switch_table.specs.Exports.{HaveOwnCacheKeys, equal_cache_keys}
use Rattle.switch_table.proofs.CacheSlotPushes.{count_live, distinct_live, live_fit}
use Rattle.switch_table.proofs.slots.CacheSlots.len.Goals as goal

pub returns-clause-len : goal.returns-clause-len
returns-clause-len c = let slots = c.self.inside.map.entries in
    omega (
      arith,
      c.min.ensures,
      c.all.ensures,
      c.self.invariant.counted.all,
      count_live slots,
      live_fit slots,
      c.len-slots.ensures.len,
      ap length c.self.view_is,
    )

pub returns-clause-distinct : goal.returns-clause-distinct
unfolding equal_cache_keys
returns-clause-distinct c = subst HaveOwnCacheKeys c.self.view_is
    (distinct_live c.self.inside.map.entries c.len-slots.ensures.unique)
