use Rattle.std.proofs.Common.{◌==◌, filter_map, find, flat_map, take}
use Rattle.policy_rules.specs.Exports.{words_of_policy_row}
use Rattle.controller.specs.Exports.{ControllerListsMoreTouched}
use Rattle.controller.proofs.touching.controller_touch_removed_rows.Given as goal

-- those of the priorities so far are listed
abbrev pub invariant-loop-priority : goal.invariant-loop-priority
invariant-loop-priority l = ControllerListsMoreTouched l.initial.words.items l.words.items
    (flat_map words_of_policy_row (filter_map (λ priority. find (λ row. row.priority == priority) l.rows)
    (take l.priority-index l.removed)))
