use Rattle.std.proofs.Common.{◌++◌, ◌≡◌, drop, map, take}
use Rattle.version_update.specs.Exports.{MaskNamesUpdateSwitches, opened_update_record, update_joining_opens_at}
use Rattle.version_update.proofs.switches.open_if_acked.Given as goal

-- those of the switches so far are opened, and named
abbrev pub invariant-loop-s : goal.invariant-loop-s
invariant-loop-s l = record {
  named : MaskNamesUpdateSwitches l.mask (update_joining_opens_at l.current) (take l.s l.initial.switches);
  opened : l.switches ≡ map (opened_update_record l.current) (take l.s l.initial.switches) ++ drop l.s
      l.initial.switches;
}
