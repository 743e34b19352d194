use Rattle.std.proofs.Common.{[], ◌==◌, ◌∙◌, All, List, ap, filter_map, find, flat_map, inl, refl, subst, sym, ℕ}
use Rattle.base.proofs.Exports.{flat_map-append}
use Rattle.ternary.specs.Exports.{WordValue}
use Rattle.policy_rules.specs.Exports.{IsSoundPolicyRow, policy_additions, policy_removals, removed_policy_rows, words_of_policy_row}
use Rattle.policy_rules.specs.declared.policy.Row.{Row}
use Rattle.policy_rules.proofs.PolicyRulesCallerLemmas.{additions_sound}
use Rattle.switch_table.specs.Exports.{cache_few_touched}
use Rattle.controller.specs.Exports.{ControllerListsMoreTouched}
use Rattle.controller.proofs.ControllerTouchedWords.{lists_then, told_alike}
use Rattle.controller.proofs.touching.touched.Goals as goal

pub controller_touch_added_rows-requires : goal.controller_touch_added_rows-requires
controller_touch_added_rows-requires c = subst (All IsSoundPolicyRow) (sym c.added.ensures.rows)
    (additions_sound c.args.change.now c.added.ensures.amendment.sound)

pub returns : goal.returns
returns c =
    let rows : List Row = c.args.policy.now in
    let removed : List Row = removed_policy_rows rows c.args.change.now in
    let added : List Row = policy_additions c.args.change.now in
    let some : List WordValue = c.controller_touch_removed_rows.new.words.items in
    let listed : List WordValue = c.controller_touch_added_rows.new.words.items in
    let words_of : List Row → List ℕ → List WordValue = λ rows gone. flat_map words_of_policy_row
    (filter_map (λ priority. find (λ (row : Row). row.priority == priority) rows) gone) in
    let first = subst (λ these. ControllerListsMoreTouched these some (words_of rows (policy_removals c.args.change.now)))
    c.new-words.ensures.items (subst (λ these. ControllerListsMoreTouched c.new-words.result.items some
    (words_of these (policy_removals c.args.change.now))) c.rows.ensures.rows
    (subst (λ gone. ControllerListsMoreTouched c.new-words.result.items some (words_of c.rows.result.now gone))
    c.removed.ensures c.in_ok-controller_touch_removed_rows.ensures)) in
    let last = subst (λ these. ControllerListsMoreTouched some listed (flat_map words_of_policy_row these))
    c.added.ensures.rows c.in_ok-controller_touch_added_rows.ensures in
    c.controller_touched_by_words.ensures ∙ told_alike listed _
    ((lists_then [] some listed _ _ first last) [] (inl refl))
    ∙ ap cache_few_touched (sym (flat_map-append words_of_policy_row removed added))
