-- What the change that made a version touches, as the controller sends it to the switches.
use Rattle.std.specs.Prelude.{List, Option, Some, option_and_then, suc, zero, ℕ}
use Rattle.policy_rules.specs.Exports.{touched_policy_words}
use Rattle.policy_rules.specs.declared.file.PolicyFile.{PolicyFile}
use Rattle.policy_rules.specs.declared.file.PolicyFile.TheVariants.{Change}
use Rattle.policy_rules.specs.declared.policy.Row.{Row}
use Rattle.switch_table.specs.Exports.{cache_all_touched, cache_few_touched}
use Rattle.ternary.specs.Exports.{WordValue}
use Rattle.journal.specs.declared.item.Item.{Item}
use Rattle.update_machine.specs.Setting.{Setting, machine_file_at, journal_version_file, machine_policy_in}
use Rattle.update_machine.specs.Versions.{journal_version_count}

-- what a file touches of an earlier policy: the words of the rows that a change removes and adds,
-- if these are few; a file with its own policy touches everything
abbrev pub machine_touched_of : Option PolicyFile → Option (List Row) → List WordValue
machine_touched_of (Some (Change edits)) (Some rows) = cache_few_touched (touched_policy_words rows edits)
machine_touched_of _ _ = cache_all_touched

-- what this file touches of the policy of the newest version, if it is submitted next
abbrev pub journal_next_touched : Setting → List Item → ℕ → List WordValue
journal_next_touched setting journal file =
    machine_touched_of (machine_file_at setting file) (machine_policy_in setting journal (journal_version_count journal))

-- what the file of a version touches of the policy of the version before, if there is one
unfoldable pub machine_touched_by : Setting → List Item → ℕ → List WordValue
machine_touched_by setting journal zero = cache_all_touched
machine_touched_by setting journal (suc version) =
    machine_touched_of (option_and_then (machine_file_at setting) (journal_version_file journal (suc version)))
    (machine_policy_in setting journal version)
