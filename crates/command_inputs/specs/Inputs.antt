-- The task of a command: the contents of its files, or its load case, or the first refusal in the
-- order of work.
use Rattle.std.specs.Prelude.{[], if◌then◌else◌, ◌+◌, ◌∷◌, Bool, Err, List, None, Ok, Option, Result, Some, codes, false, is_ok, length, map, nat_le, option_map, slice_index_or, true, unwrap_or, ℕ, ⊤}
use Rattle.base.specs.Exports.{option_map_or}
use Rattle.schedule.specs.Case.{LoadCase, load_case}
use Rattle.net_file.specs.Exports.{net_code, net_of, port_mask, net_of_one_switch, net_switch_number_named}
use Rattle.update_machine.specs.Exports.{Event, InRow, Net, PolicyFile, Row, Whole, machine_plan_code, machine_setting_of}
use Rattle.partition.specs.Plan.{HostedPolicyPartition, partition_plan_of}
use Rattle.policy_rules.specs.Hosted as no_plan
use Rattle.policy_rules.specs.Exports.{NoPolicyPlan}
use Rattle.policy_file.specs.Exports.{first_in_policy_file, policy_file_first_row_without_port, is_policy_file_change_text, policy_file_refusal_code, policy_file_of, policy_file_policy_of}
use Rattle.policy_file.specs.declared.ports.NoPort.{NoPort}
use Rattle.schedule.specs.Reading.{schedule_of}
use Rattle.schedule.specs.Refusals.{schedule_code}
use Rattle.shelf.specs.Exports.{ShelfFiles, shelf_file_named}
use Rattle.world.specs.Exports.{world_first_file_policy}
use Rattle.command_line.specs.Exports.{AuditArguments, Command, PrintArguments, ReplayArguments}
use Rattle.command_line.specs.Commands as asked
use Rattle.command_inputs.specs.Codes.{command_input_first_change_code, command_input_missing_file_code, command_input_most_file_bytes, command_input_most_trace_bytes, command_input_no_port_code, command_input_missing_switch_code, command_input_too_long_code}
use Rattle.command_line.specs.declared.report.Report.TheVariants as report
use Rattle.command_inputs.specs.declared.status.Refusal.{Refusal}
use Rattle.command_inputs.specs.Tasks.{CommandAuditInputs, Inputs, CommandPrintInputs, CommandInputTask, Audit, Play, Print}

-- the reading continues from a value that was read; a refusal ends it
abbrev pub and_then_command_input : {X Y : Type 0} → Result X Refusal → (X → Result Y Refusal) → Result Y Refusal
and_then_command_input (Ok x) next = next x
and_then_command_input (Err refusal) next = Err refusal

-- ---- one file

-- a file that is refused as a whole
abbrev pub input_file_refused_whole : List ℕ → ℕ → Refusal
input_file_refused_whole name code = record { file = name; code = code; row = 0 }

abbrev pub command_input_content_from : ℕ → List ℕ → Option (List ℕ) → Result (List ℕ) Refusal
command_input_content_from most name None = Err (input_file_refused_whole name command_input_missing_file_code)
command_input_content_from most name (Some bytes) =
    if nat_le (length bytes) most then Ok bytes else Err (input_file_refused_whole name command_input_too_long_code)

-- the content of the file of this name, unless there is none or it has more than this many bytes
abbrev pub command_input_content_within : ℕ → ShelfFiles → List ℕ → Result (List ℕ) Refusal
command_input_content_within most files name = command_input_content_from most name (shelf_file_named files name)

-- the same for any file but a trace
abbrev pub command_input_content : ShelfFiles → List ℕ → Result (List ℕ) Refusal
command_input_content files name = command_input_content_within command_input_most_file_bytes files name

-- the value that the file states, or the refusal of its row, by its code
abbrev pub input_read_from : {X R : Type 0} → (R → ℕ) → List ℕ → Result X (InRow R) → Result X Refusal
input_read_from code name (Ok value) = Ok value
input_read_from code name (Err refused) =
    Err (record { file = name; code = code refused.refusal; row = refused.row })

-- the events that the bytes of this file state for the network and this many policy files
abbrev pub command_input_schedule_in : Net → ℕ → List ℕ → List ℕ → Result (List Event) Refusal
command_input_schedule_in net policies name bytes = input_read_from schedule_code name (schedule_of net policies bytes)

abbrev pub input_with_ports : {X : Type 0} → List ℕ → X → Option NoPort → Result X Refusal
input_with_ports name value None = Ok value
input_with_ports name value (Some lack) = Err (record { file = name; code = command_input_no_port_code; row = lack.row })

-- the rows that the bytes of this file state, unless one names a port outside this mask
abbrev pub input_policy_stated : ℕ → List ℕ → List ℕ → Result (List Row) Refusal
input_policy_stated ports name bytes =
    and_then_command_input (input_read_from policy_file_refusal_code name (policy_file_policy_of bytes)) (λ rows.
    input_with_ports name rows (policy_file_first_row_without_port ports rows))

-- what the bytes of this file state, a policy or a change, unless a row that it states names a
-- port outside this mask
abbrev pub input_file_stated : ℕ → List ℕ → List ℕ → Result PolicyFile Refusal
input_file_stated ports name bytes =
    and_then_command_input (input_read_from policy_file_refusal_code name (policy_file_of bytes)) (λ file.
    input_with_ports name file (first_in_policy_file ports file))

-- the same for a first file, unless it is a change
abbrev pub first_command_input_stated : ℕ → List ℕ → List ℕ → Result PolicyFile Refusal
first_command_input_stated ports name bytes =
    if is_policy_file_change_text bytes then Err (input_file_refused_whole name command_input_first_change_code)
    else and_then_command_input (input_policy_stated ports name bytes) (λ rows. Ok (Whole rows))

abbrev pub input_stated_as : Bool → ℕ → List ℕ → List ℕ → Result PolicyFile Refusal
input_stated_as true ports name bytes = first_command_input_stated ports name bytes
input_stated_as false ports name bytes = input_file_stated ports name bytes

abbrev pub read_schedule : Net → ℕ → ShelfFiles → List ℕ → Result (List Event) Refusal
read_schedule net policies files name =
    and_then_command_input (command_input_content files name) (command_input_schedule_in net policies name)

abbrev pub read_policy : ℕ → ShelfFiles → List ℕ → Result (List Row) Refusal
read_policy ports files name = and_then_command_input (command_input_content files name) (input_policy_stated ports name)

-- the policy or the change of this file, which may be the first one
abbrev pub read_file : Bool → ℕ → ShelfFiles → List ℕ → Result PolicyFile Refusal
read_file is_first ports files name =
    and_then_command_input (command_input_content files name) (input_stated_as is_first ports name)

-- the policies and changes of these files in their order, or the first refusal; the flag says
-- whether the first of them is the command's first file
abbrev pub command_input_files : Bool → ℕ → ShelfFiles → List (List ℕ) → Result (List PolicyFile) Refusal
command_input_files is_first ports files [] = Ok []
command_input_files is_first ports files (name ∷ names) =
    and_then_command_input (read_file is_first ports files name)
    (λ file. and_then_command_input (command_input_files false ports files names) (λ more. Ok (file ∷ more)))

-- the network that the bytes of this file state
abbrev pub command_input_net_stated : List ℕ → List ℕ → Result Net Refusal
command_input_net_stated name bytes = input_read_from net_code name (net_of bytes)

-- the network of this file, or that of one switch if none is named
abbrev pub read_net : ShelfFiles → Option (List ℕ) → Result Net Refusal
read_net files None = Ok net_of_one_switch
read_net files (Some name) = and_then_command_input (command_input_content files name) (command_input_net_stated name)

-- ---- plans

abbrev pub input_plan_from : List ℕ → Result (List HostedPolicyPartition) NoPolicyPlan → Result (List HostedPolicyPartition) Refusal
input_plan_from name (Ok hosted) = Ok hosted
input_plan_from name (Err (no_plan.NoRoom partition)) =
    Err (record { file = name; code = machine_plan_code (no_plan.NoRoom partition); row = partition })
input_plan_from name (Err why) = Err (input_file_refused_whole name (machine_plan_code why))

-- the plan of the rows of this file on the network
abbrev pub input_plan_on : List ℕ → Net → List Row → Result (List HostedPolicyPartition) Refusal
input_plan_on name net rows = input_plan_from name (partition_plan_of rows net)

-- the plan of the policy of the first of these files, which have these names
abbrev pub input_first_plan : List (List ℕ) → Net → List PolicyFile → Result (List HostedPolicyPartition) Refusal
input_first_plan names net files =
    input_plan_on (slice_index_or names 0 []) net (unwrap_or (world_first_file_policy files) [])

-- ---- what is played

-- the files of a replay: the network is read and checked, then the schedule, then the policies
-- and changes in their order, and then the first policy is planned
abbrev pub command_replay_inputs : ShelfFiles → ReplayArguments → Result Inputs Refusal
command_replay_inputs files command =
    and_then_command_input (read_net files command.net) (λ net.
    and_then_command_input (read_schedule net (length command.policies) files command.schedule) (λ events.
    and_then_command_input (command_input_files true (port_mask net.switches) files command.policies) (λ read.
    and_then_command_input (input_first_plan command.policies net read) (λ hosted.
    Ok (record {
      setting = machine_setting_of net read;
      events = events;
      report = command.report;
    })))))

-- the policies of a load case, each in its own file
abbrev pub command_input_load_case_files : LoadCase → List PolicyFile
command_input_load_case_files load = map Whole load.policies

-- a load case, whose summary is printed
abbrev pub command_inputs_of_load : LoadCase → Inputs
command_inputs_of_load load = record {
  setting = machine_setting_of load.net (command_input_load_case_files load);
  events = load.events;
  report = report.Summary;
}

-- the file that a refusal of a load case names
abbrev pub command_load_input_name : List ℕ
command_load_input_name = codes "load"

-- the load case of this number, whose first policy is planned
abbrev pub load_inputs_or_refusal : ℕ → Result Inputs Refusal
load_inputs_or_refusal n =
    let load = load_case n in
    and_then_command_input (input_first_plan (command_load_input_name ∷ []) load.net (command_input_load_case_files load)) (λ hosted.
    Ok (command_inputs_of_load load))

-- ---- all files of a plan

-- the number of the switch of this name, if one is named
abbrev pub command_input_switch_named : Net → Option (List ℕ) → Result (Option ℕ) Refusal
command_input_switch_named net None = Ok None
command_input_switch_named net (Some name) =
    option_map_or (λ s. Ok (Some s)) (net_switch_number_named net.switches name) (Err (input_file_refused_whole name command_input_missing_switch_code))

-- the network, and the switch on it
abbrev pub net_and_switch_to_print : ShelfFiles → PrintArguments → Result (Net × Option ℕ) Refusal
net_and_switch_to_print files command =
    and_then_command_input (read_net files command.net) (λ net.
    and_then_command_input (command_input_switch_named net command.switch) (λ switch.
    Ok (net, switch)))

-- the network is read and checked, then the switch is looked for, then the policy is read and
-- checked, and then it is planned
abbrev pub command_print_inputs : ShelfFiles → PrintArguments → Result CommandPrintInputs Refusal
command_print_inputs files command =
    and_then_command_input (net_and_switch_to_print files command) (λ asked.
    and_then_command_input (read_policy (port_mask asked.0.switches) files command.policy) (λ rows.
    and_then_command_input (input_plan_on command.policy asked.0 rows) (λ hosted.
    Ok (record { policy = rows; net = asked.0; hosted = hosted; switch = asked.1 }))))

-- ---- all files of an audit

-- the ports of a network of one switch, which are 0 to 63
abbrev pub command_input_solo_ports : ℕ
command_input_solo_ports = 18446744073709551615

-- the trace is read, then the policies and changes in their order
abbrev pub command_audit_inputs : ShelfFiles → AuditArguments → Result CommandAuditInputs Refusal
command_audit_inputs files command =
    and_then_command_input (command_input_content_within command_input_most_trace_bytes files command.trace) (λ trace.
    and_then_command_input (command_input_files true command_input_solo_ports files command.policies) (λ read.
    Ok (record { trace = trace; files = read })))

-- ---- all commands

abbrev pub command_input_play_task : Result Inputs Refusal → Result CommandInputTask Refusal
command_input_play_task read = and_then_command_input read (λ inputs. Ok (Play inputs))

abbrev pub command_input_print_task : Result CommandPrintInputs Refusal → Result CommandInputTask Refusal
command_input_print_task read = and_then_command_input read (λ printing. Ok (Print printing))

abbrev pub command_input_audit_task : Result CommandAuditInputs Refusal → Result CommandInputTask Refusal
command_input_audit_task read = and_then_command_input read (λ auditing. Ok (Audit auditing))

-- the task or the refusal, if it is known: that of a load case always is, because it reads no
-- files, and that of another command is if the files are known
abbrev pub command_input_task_of : Option ShelfFiles → Command → Option (Result CommandInputTask Refusal)
command_input_task_of files (asked.Replay args) = option_map (λ all. command_input_play_task (command_replay_inputs all args)) files
command_input_task_of files (asked.Print args) = option_map (λ all. command_input_print_task (command_print_inputs all args)) files
command_input_task_of files (asked.Load n) = Some (command_input_play_task (load_inputs_or_refusal n))
command_input_task_of files (asked.Audit args) = option_map (λ all. command_input_audit_task (command_audit_inputs all args)) files

-- the same, if the arguments are a command
abbrev pub known_command_input_task : Option ShelfFiles → Option Command → Option (Result CommandInputTask Refusal)
known_command_input_task files None = None
known_command_input_task files (Some command) = command_input_task_of files command

-- the task is known, and accepted
abbrev pub IsCommandInputTaskAccepted : Option (Result CommandInputTask Refusal) → Type 0
IsCommandInputTaskAccepted (Some (Ok task)) = ⊤
IsCommandInputTaskAccepted _ = ⊥

-- of files in order, accepted or not, how many are read: none after the first that is refused
abbrev pub input_files_to_refusal : List Bool → ℕ
input_files_to_refusal [] = 0
input_files_to_refusal (true ∷ files) = 1 + input_files_to_refusal files
input_files_to_refusal (false ∷ files) = 1

-- how many reads the network takes: one if it has a file
abbrev pub command_input_net_reads : Option (List ℕ) → ℕ
command_input_net_reads None = 0
command_input_net_reads (Some name) = 1

-- which of these files are accepted; the flag says whether the first is the command's first file
abbrev pub are_inputs_accepted : Bool → ℕ → ShelfFiles → List (List ℕ) → List Bool
are_inputs_accepted is_first ports files [] = []
are_inputs_accepted is_first ports files (name ∷ names) =
    is_ok (read_file is_first ports files name) ∷ are_inputs_accepted false ports files names

-- how many reads these files take at most
abbrev pub command_input_file_reads : Bool → ℕ → Option ShelfFiles → List (List ℕ) → ℕ
command_input_file_reads is_first ports None names = length names
command_input_file_reads is_first ports (Some files) names =
    input_files_to_refusal (are_inputs_accepted is_first ports files names)

-- how many reads a replay makes at most after that of its network
abbrev pub command_input_replay_reads : ShelfFiles → ReplayArguments → Result Net Refusal → ℕ
command_input_replay_reads files args (Err refusal) = 0
command_input_replay_reads files args (Ok net) =
    input_files_to_refusal (is_ok (read_schedule net (length args.policies) files args.schedule)
    ∷ are_inputs_accepted true (port_mask net.switches) files args.policies)

-- how many reads an audit makes at most
abbrev pub command_input_audit_reads : ShelfFiles → AuditArguments → ℕ
command_input_audit_reads files args =
    input_files_to_refusal (is_ok (command_input_content_within command_input_most_trace_bytes files args.trace)
    ∷ are_inputs_accepted true command_input_solo_ports files args.policies)

-- how many reads a command makes at most
abbrev pub command_input_most_reads : Option ShelfFiles → Option Command → ℕ
command_input_most_reads files None = 0
command_input_most_reads None (Some (asked.Replay args)) = command_input_net_reads args.net + 1 + length args.policies
command_input_most_reads None (Some (asked.Print args)) = command_input_net_reads args.net + 1
command_input_most_reads None (Some (asked.Load n)) = 0
command_input_most_reads None (Some (asked.Audit args)) = 1 + length args.policies
command_input_most_reads (Some files) (Some (asked.Replay args)) =
    command_input_net_reads args.net + command_input_replay_reads files args (read_net files args.net)
command_input_most_reads (Some files) (Some (asked.Print args)) =
    command_input_net_reads args.net + (if is_ok (net_and_switch_to_print files args) then 1 else 0)
command_input_most_reads (Some files) (Some (asked.Load n)) = 0
command_input_most_reads (Some files) (Some (asked.Audit args)) = command_input_audit_reads files args
