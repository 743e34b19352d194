-- What a change touches of a policy: the rows that it removes, those that it adds, and their words.
use Rattle.std.specs.Prelude.{◌++◌, ◌==◌, List, filter_map, find, flat_map}
use Rattle.ternary.specs.Exports.{WordValue}
use Rattle.policy_rules.specs.Applied.{policy_additions, policy_removals}
use Rattle.policy_rules.specs.Words.{words_of_policy_row}
use Rattle.policy_rules.specs.declared.amendment.Edit.{Edit}
use Rattle.policy_rules.specs.declared.policy.Row.{Row}

-- the rows of the policy that the change removes, in the order of the edits
abbrev pub removed_policy_rows : List Row → List Edit → List Row
removed_policy_rows rows change =
    filter_map (λ priority. find (λ row. row.priority == priority) rows) (policy_removals change)

-- the rows that it removes, and then those that it adds
abbrev pub touched_policy_rows : List Row → List Edit → List Row
touched_policy_rows rows change = removed_policy_rows rows change ++ policy_additions change

-- their words, those of each row in the order of the rule list
abbrev pub touched_policy_words : List Row → List Edit → List WordValue
touched_policy_words rows change = flat_map words_of_policy_row (touched_policy_rows rows change)
