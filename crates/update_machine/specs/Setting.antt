-- First tier. A network with files of policies, and the policies and plans of a journal's versions.
use Rattle.std.specs.Prelude.{[], if◌then◌else◌, ◌-◌, ◌==◌, ◌∷◌, ◌≡◌, All, Err, IsOk, IsTrue, List, None, Ok, Option, Result, Some, is_some, option_and_then, slice_get, suc, zero, ℕ, ⊤}
use Rattle.base.specs.Exports.{option_or, result_ok}
use Rattle.net_file.specs.declared.net.Net.{Net}
use Rattle.net_file.specs.Exports.{IsNet, net_port_owner}
use Rattle.partition.specs.Plan.{HostedPolicyPartition, partition_plan_of}
use Rattle.policy_rules.specs.Exports.{PolicyFileRowsAre, IsSoundPolicyFile, NoPolicyPlan, policy_change_applied}
use Rattle.policy_rules.specs.declared.applying.Inapplicable.{Inapplicable}
use Rattle.policy_rules.specs.declared.applying.Inapplicable.TheVariants.{Absent}
use Rattle.policy_rules.specs.declared.file.PolicyFile.{PolicyFile}
use Rattle.policy_rules.specs.declared.file.PolicyFile.TheVariants.{Whole, Change}
use Rattle.policy_rules.specs.declared.policy.Row.{Row}
use Rattle.policy_rules.specs.declared.policy.Action.{Action}
use Rattle.policy_rules.specs.declared.policy.Action.TheVariants as action
use Rattle.journal.specs.declared.item.Item.{Item}
use Rattle.journal.specs.declared.item.Item.TheVariants as item

-- the network; the files of policies and changes, in order; and the plan of the rows of a policy on
-- the network, if it has one
pub record Setting : Type 0 where
  pub net : Net
  pub files : List PolicyFile
  pub plan : List Row → Result (List HostedPolicyPartition) NoPolicyPlan

-- the setting of these files on this network
abbrev pub machine_setting_of : Net → List PolicyFile → Setting
machine_setting_of net files = record {
  net = net;
  files = files;
  plan = λ rows. partition_plan_of rows net;
}

-- files are numbered from 1
abbrev pub machine_file_at : Setting → ℕ → Option PolicyFile
machine_file_at setting file = if file == 0 then None else slice_get setting.files (file - 1)

-- a file has a policy, or makes one of the policy of the version before; if there is no file, or a
-- change has no policy before it, there is none
abbrev pub machine_policy_made_by : Option PolicyFile → Option (List Row) → Result (List Row) Inapplicable
machine_policy_made_by (Some (Whole rows)) earlier = Ok rows
machine_policy_made_by (Some (Change edits)) (Some rows) = policy_change_applied rows edits
machine_policy_made_by _ _ = Err Absent

-- the same, for the file of this number
abbrev pub machine_policy_by : Setting → Option (List Row) → ℕ → Result (List Row) Inapplicable
machine_policy_by setting earlier file = machine_policy_made_by (machine_file_at setting file) earlier

-- what the first item that says something says: one more way, besides those of `Folds`
abbrev pub journal_first_given : {X : Type 0} → (Item → Option X) → List Item → Option X
journal_first_given tells [] = None
journal_first_given tells (item ∷ items) = option_or (tells item) (journal_first_given tells items)

abbrev pub machine_item_gives_file : ℕ → Item → Option ℕ
machine_item_gives_file v (item.Submitted file version) = if version == v then Some file else None
machine_item_gives_file v _ = None

-- the file of a version: the first file is that of version 1, and any other version has the one
-- with which it was submitted
unfoldable pub journal_version_file : List Item → ℕ → Option ℕ
journal_version_file journal version = if version == 1 then Some 1 else journal_first_given (machine_item_gives_file version) journal

-- the policy of a version, if it has one: what its file makes of that of the version before
unfoldable pub machine_policy_in : Setting → List Item → ℕ → Option (List Row)
machine_policy_in setting journal zero = None
machine_policy_in setting journal (suc version) =
    option_and_then (λ file. result_ok (machine_policy_by setting (machine_policy_in setting journal version) file))
    (journal_version_file journal (suc version))

-- the plan of a version is that of its policy
abbrev pub IsMachineSettingPlanOf : Setting → List Item → ℕ → List HostedPolicyPartition → Type 0
IsMachineSettingPlanOf setting journal version plan = (rows : List Row)
    × (machine_policy_in setting journal version ≡ Some rows) × (setting.plan rows ≡ Ok plan)

-- an action names a port that a switch has, if it names one
abbrev pub NamesMachineSettingPort : Setting → Action → Type 0
NamesMachineSettingPort setting action.Drop = ⊤
NamesMachineSettingPort setting (action.Out port) = IsTrue (is_some (net_port_owner setting.net.switches port))

-- a network, and files of policies and changes that name only its ports; the first one has a
-- policy, with a plan
pub record IsMachineSetting (setting : Setting) : Type 0 where
  pub net : IsNet setting.net
  pub made : setting ≡ machine_setting_of setting.net setting.files
  pub sound : All IsSoundPolicyFile setting.files
  pub ports : All (PolicyFileRowsAre (λ row. NamesMachineSettingPort setting row.action)) setting.files
  pub first : List Row
  pub whole : machine_file_at setting 1 ≡ Some (Whole first)
  pub planned : IsOk (setting.plan first)
