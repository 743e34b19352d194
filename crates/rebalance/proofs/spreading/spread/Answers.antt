use Rattle.std.proofs.Common.{◌∙◌}
use Rattle.rebalance.proofs.spreading.spread.Goals as goal

pub take_turns-requires : goal.take_turns-requires
take_turns-requires c = record {
  partitions = c.requires.partitions;
  switches = c.requires.switches;
  few = c.requires.backups;
  small = c.requires.small;
}

pub returns-clause-spread : goal.returns-clause-spread
returns-clause-spread c =
    rw (c.deref.ensures.value ∙ c.in_ok-wide.ensures) at c.take_turns.ensures.hosted

pub returns-clause-refused : goal.returns-clause-refused
returns-clause-refused c =
    rw (c.deref.ensures.value ∙ c.in_ok-wide.ensures) at c.take_turns.ensures.refused
