-- The versions of a journal, their policies and plans, and which of them a switch has and stamps
-- packets with. An update has two phases: tables are installed before packets are stamped with
-- their version, and removed once none is (Reitblatt, Foster, Rexford, Schlesinger and Walker,
-- "Abstractions for Network Update").
use Rattle.std.specs.Prelude.{[], if◌then◌else◌, ◌&&◌, ◌++◌, ◌+◌, ◌==◌, ◌||◌, ◌∷◌, ◌≡◌, Bool, Err, List, None, Ok, Option, Result, Some, false, filter_map, fold, is_some, max, nat_le, not, true, unwrap_or, ℕ}
use Rattle.base.specs.Exports.{list_any, option_map_or}
use Rattle.ctrl_msg.specs.declared.message.Body.{Body}
use Rattle.ctrl_msg.specs.declared.message.Body.TheVariants.{Install, OpenAt, Stamp, Collect}
use Rattle.policy_rules.specs.declared.applying.Inapplicable.{Inapplicable}
use Rattle.policy_rules.specs.declared.policy.Row.{Row}
use Rattle.policy_rules.specs.Exports.{NoPolicyPlan}
use Rattle.switch_table.specs.Exports.{tables_of}
use Rattle.switch_table.specs.declared.tables.Tables.{Tables}
use Rattle.journal.specs.declared.item.Item.{Item}
use Rattle.journal.specs.declared.item.Item.TheVariants as item
use Rattle.update_machine.specs.Boots.{heard, is_first_boot_in_journal}
use Rattle.update_machine.specs.Folds.{machine_count_of}
use Rattle.update_machine.specs.Setting.{Setting, journal_version_file, machine_policy_by, machine_policy_in}
use Rattle.partition.specs.Plan.{HostedPolicyPartition}

-- ---- policies and plans

-- the partitions of a plan with their targets; none if there is no plan
abbrev pub machine_hosted_or_none : Result (List HostedPolicyPartition) NoPolicyPlan → List HostedPolicyPartition
machine_hosted_or_none (Ok plan) = plan
machine_hosted_or_none (Err why) = []

-- the partitions of its plan with their targets; none if there is no policy or no plan
unfoldable pub journal_plan_at : Setting → List Item → ℕ → List HostedPolicyPartition
journal_plan_at setting journal version =
    option_map_or (λ rows. machine_hosted_or_none (setting.plan rows)) (machine_policy_in setting journal version) []

abbrev pub is_journal_submission : Item → Bool
is_journal_submission (item.Submitted file version) = true
is_journal_submission _ = false

-- how many versions there are: the first policy's, and one for each that was submitted
unfoldable pub journal_version_count : List Item → ℕ
journal_version_count journal = machine_count_of is_journal_submission journal + 1

-- the version exists: it is the first one, or was submitted
abbrev pub is_journal_version : List Item → ℕ → Bool
is_journal_version journal version = is_some (journal_version_file journal version)

-- the rows of its policy; none if there is no policy
unfoldable pub machine_policy_at : Setting → List Item → ℕ → List Row
machine_policy_at setting journal version = unwrap_or (machine_policy_in setting journal version) []

-- the policy of the next version, if this file is submitted: what the file makes of the policy of
-- the newest one
unfoldable pub journal_next_policy : Setting → List Item → ℕ → Result (List Row) Inapplicable
journal_next_policy setting journal file =
    machine_policy_by setting (machine_policy_in setting journal (journal_version_count journal)) file

-- the version has a policy, which has a plan
pub record MachineVersionHasPlan (setting : Setting) (journal : List Item) (version : ℕ) : Type 0 where
  pub policy : machine_policy_in setting journal version ≡ Some (machine_policy_at setting journal version)
  pub plan : setting.plan (machine_policy_at setting journal version) ≡ Ok (journal_plan_at setting journal version)

-- the tables of a version that its plan gives switch s
abbrev pub journal_tables_at : Setting → List Item → ℕ → ℕ → Tables
journal_tables_at setting journal version s = tables_of (journal_plan_at setting journal version) version s

-- ---- stamps

-- the greatest of numbers, and 0 if there is none
abbrev pub machine_greatest_stamp_number : List ℕ → ℕ
machine_greatest_stamp_number numbers = fold max 0 numbers

-- the version with which a switch may stamp after a body
abbrev pub machine_version_to_stamp_with : Body → Option ℕ
machine_version_to_stamp_with (OpenAt boot version) = Some version
machine_version_to_stamp_with (Stamp boot version touched) = Some version
machine_version_to_stamp_with _ = None

abbrev pub journal_first_stamp : List Item → ℕ → List ℕ
journal_first_stamp journal s = if is_first_boot_in_journal journal s then 1 ∷ [] else []

-- the greatest version with which the switch was told to stamp, or to open, in its boot; version 1
-- counts in boot 1
unfoldable pub journal_stamp_of : List Item → ℕ → ℕ
journal_stamp_of journal s = machine_greatest_stamp_number (journal_first_stamp journal s
    ++ filter_map machine_version_to_stamp_with (heard journal s))

-- ---- held versions

abbrev pub machine_body_installs_version : ℕ → Body → Bool
machine_body_installs_version v (Install boot tables) = tables.version == v
machine_body_installs_version v _ = false

abbrev pub message_collects_version : ℕ → Body → Bool
message_collects_version v (Collect boot version) = nat_le v version
message_collects_version v _ = false

-- the version's tables were installed in this boot, or the switch began with them; and neither this
-- version nor a greater one was collected
unfoldable pub holds_version : List Item → ℕ → ℕ → Bool
holds_version journal s v =
    (list_any (machine_body_installs_version v) (heard journal s) || (v == 1 && is_first_boot_in_journal journal s))
    && not (list_any (message_collects_version v) (heard journal s))
