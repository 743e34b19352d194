use Rattle.std.proofs.Common.{subst}
use Rattle.switch_core.specs.Exports.{IsSoundSwitch}
use Rattle.switch_core.proofs.SwitchOwnLookups.{lookup_is_found}
use Rattle.switch_core.proofs.SwitchLookupAnswers.{stamp_sound}
use Rattle.switch_core.proofs.switch.Switch.look_up.Goals as goal

pub by_found-requires : goal.by_found-requires
by_found-requires c = let switch = subst IsSoundSwitch c.self.view_is c.self.invariant in
    rw (c.lookup-found.ensures, c.tables.ensures, c.finder-finder.ensures, c.stamp_tables.ensures)
    (lookup_is_found _ _ _ (stamp_sound _ switch c.requires) c.number.ensures.header)
