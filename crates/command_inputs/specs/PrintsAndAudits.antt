-- A plan or tables are as the command asks, and so are a trace and its policies.
use Rattle.std.specs.Prelude.{◌≡◌, ◌≤◌, All, IsSome, IsTrue, List, None, Ok, Option, Some, is_some, length, ℕ}
use Rattle.net_file.specs.Exports.{port_mask, net_switch_number_named}
use Rattle.update_machine.specs.Exports.{Header, Net}
use Rattle.partition.specs.Plan.{IsPartitionPlan, partition_plan_of}
use Rattle.policy_file.specs.Exports.{policy_file_length, action_names_only_ports}
use Rattle.policy_rules.specs.Exports.{IsFirstPolicyMatch, IsPolicy, IsSoundPolicyFile, scan}
use Rattle.controller.specs.Exports.{ControllerPlanLeadsEveryHeader}
use Rattle.world.specs.Exports.{world_first_file_policy}
use Rattle.command_line.specs.Exports.{AuditArguments, PrintArguments}
use Rattle.command_inputs.specs.Codes.{command_input_most_trace_bytes}
use Rattle.command_inputs.specs.Tasks.{CommandAuditInputs, IsCommandInputNetOf, CommandPrintInputs}

-- ---- plans and tables

-- the switch is the one that the command names
abbrev pub IsCommandInputSwitch : Option (List ℕ) → Net → Option ℕ → Type 0
IsCommandInputSwitch None net switch = switch ≡ None
IsCommandInputSwitch (Some name) net switch =
    (switch ≡ net_switch_number_named net.switches name) × IsTrue (is_some switch)

-- a policy of at most 2,000 rows, its plan on the network that a command names, with rows that name
-- only its ports, and the switch that the command names. The plan's partitions are the leaves of
-- the tree that is defined for the policy's rules, and their targets a placement. At every switch
-- it leads each header to what a scan of the policy finds, which is the first match
pub record IsPrintInputOf (command : PrintArguments) (printing : CommandPrintInputs) : Type 0 where
  pub policy : IsPolicy printing.policy
  pub few : length printing.policy ≤ 2000
  pub net : IsCommandInputNetOf command.net printing.net
  pub ports : All (λ row. IsTrue (action_names_only_ports (port_mask printing.net.switches) row.action))
      printing.policy
  pub switch : IsCommandInputSwitch command.switch printing.net printing.switch
  pub plan : partition_plan_of printing.policy printing.net ≡ Ok printing.hosted
  pub parts : IsPartitionPlan printing.policy printing.net printing.hosted
  pub leads : ControllerPlanLeadsEveryHeader printing.policy printing.hosted
  -- what a scan finds, to which the tables lead, is the first match
  pub first_match : (header : Header)
      → IsFirstPolicyMatch printing.policy header (scan printing.policy header)

-- ---- audits

-- there is a file for each name, sound and with at most 2,000 rows; the first has a policy; and the
-- trace isn't too long
pub record IsAuditInputOf (command : AuditArguments) (auditing : CommandAuditInputs) : Type 0 where
  pub many : length auditing.files ≡ length command.policies
  pub first : IsSome (world_first_file_policy auditing.files)
  pub sound : All IsSoundPolicyFile auditing.files
  pub few : All (λ file. policy_file_length file ≤ 2000) auditing.files
  pub short : length auditing.trace ≤ command_input_most_trace_bytes
