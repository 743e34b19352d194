use Rattle.std.proofs.Common.{subst}
use Rattle.switch_table.specs.Exports.{IsCache}
use Rattle.switch_table.proofs.CachePairs.{entries_distinct}
use Rattle.switch_table.proofs.cache.Cache.entries.Goals as goal

pub returns-clause-cache : goal.returns-clause-cache
returns-clause-cache c = subst IsCache c.self.view_is (record {
  distinct = entries_distinct c.self.inside.shift c.self.inside.slots c.self.invariant.versions
      c.iter.ensures.distinct;
  few = c.self.invariant.few;
})
