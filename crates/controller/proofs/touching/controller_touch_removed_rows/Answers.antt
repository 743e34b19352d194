use Rattle.std.proofs.Common.{◌==◌, List, Option, arith, filter_map, find, flat_map, rules, subst, take_all, ℕ}
use Rattle.base.proofs.Exports.{found_more}
use Rattle.policy_rules.specs.Exports.{words_of_policy_row}
use Rattle.policy_rules.specs.declared.policy.Row.{Row}
use Rattle.controller.specs.Exports.{ControllerListsMoreTouched}
use Rattle.controller.proofs.ControllerTouchedWords.{lists_then}
use Rattle.controller.proofs.touching.controller_touch_removed_rows.Goals as goal

pub loop-priority-preserved : goal.loop-priority-preserved
loop-priority-preserved c =
    let row_of : ℕ → Option Row =
    λ priority. find (λ (row : Row). row.priority == priority) c.args.rows.now in
    subst (ControllerListsMoreTouched c.args.words.now.items c.controller_touch_row_of.new.words.items)
    (found_more words_of_policy_row row_of c.args.removed.now c.loop-priority.priority-index _
    c.loop-priority-test.true (search rules))
    (lists_then _ _ _ _ _ c.loop-priority.invariant c.in_ok-controller_touch_row_of.ensures)

pub returns : goal.returns
returns c =
    let row_of : ℕ → Option Row =
    λ priority. find (λ (row : Row). row.priority == priority) c.args.rows.now in
    subst (λ (removed : List ℕ). ControllerListsMoreTouched c.args.words.now.items c.loop-priority.words.items
    (flat_map words_of_policy_row (filter_map row_of removed)))
    (take_all c.loop-priority.priority-index c.args.removed.now
    (omega (arith, c.loop-priority-test.false)))
    c.loop-priority.invariant
