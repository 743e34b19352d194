use Rattle.std.proofs.Common.{◌++◌, ◌≡◌, flat_map, length, take, true}
use Rattle.base.proofs.Exports.{list_all}
use Rattle.wire.specs.Exports.{switch, wire_target_count}
use Rattle.wire.proofs.fields.put_targets.Given as goal

abbrev pub invariant-loop-switch : goal.invariant-loop-switch
invariant-loop-switch l = record {
  count : wire_target_count.fits (length l.switches) ≡ true;
  fits : list_all switch.fits (take l.switch-index l.switches) ≡ true;
  bytes : l.out.items ≡ l.fn.out.items
      ++ (wire_target_count.spell (length l.switches) ++ flat_map switch.spell (take l.switch-index l.switches));
}
