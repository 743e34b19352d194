use Rattle.std.proofs.Common.{flat_map, take}
use Rattle.policy_rules.specs.Exports.{words_of_policy_row}
use Rattle.controller.specs.Exports.{ControllerListsMoreTouched}
use Rattle.controller.proofs.touching.controller_touch_added_rows.Given as goal

-- those of the rows so far are listed
abbrev pub invariant-loop-row : goal.invariant-loop-row
invariant-loop-row l = ControllerListsMoreTouched l.initial.words.items l.words.items
    (flat_map words_of_policy_row (take l.row-index l.rows))
