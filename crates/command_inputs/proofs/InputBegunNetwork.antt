-- A network on which a policy begins to be in force, and the events that may happen on it.
use Rattle.std.proofs.Common.{[], ◌<◌, ◌∙◌, ◌∷◌, ◌≡◌, ◌≤◌, All, Bor, Err, IsErrAnd, IsOk, IsSome, IsTrue, List, None, Ok, Option, Result, Some, ap, arith, false, length, map, refl, slice_index_or, subst, sym, true, unwrap_or, ℕ}
use Rattle.base.proofs.Exports.{ForSome, get_or-map, length-map}
use Rattle.schedule.specs.Case.{IsPlayableLoadCase, LoadCase, NamesLoadCasePort}
use Rattle.net_file.specs.Exports.{IsNet, NetPortLaws, port_mask}
use Rattle.update_machine.specs.Exports.{Action, Add, Change, Edit, Event, IsMachineSetting, NamesMachineSettingPort, Net, PolicyFile, Remove, Row, Setting, Whole, machine_setting_of}
use Rattle.partition.specs.Plan.{HostedPolicyPartition, partition_plan_of}
use Rattle.policy_file.specs.Exports.{policy_file_length, action_names_only_ports}
use Rattle.policy_rules.specs.declared.policy.Action.TheVariants as action
use Rattle.policy_rules.specs.Exports.{PolicyEditAddsOnly, PolicyFileRowsAre, IsPolicy, IsSoundPolicyFile, NoPolicyPlan}
use Rattle.steps.specs.Exports.{IsEventOfSteps, max_events}
use Rattle.world.specs.Exports.{WorldRefinesJournal, WorldValue, world_first_file_policy, world_setting_at}
use Rattle.shelf.specs.Exports.{ShelfFiles, ShelfState}
use Rattle.command_inputs.specs.Exports.{CommandStatusAccounts, CommandInputReadEnds, Inputs, IsCommandInputNetOf, AreCommandInputsOfReplay, CommandNeedsReadFault, CommandInputStopsCheck, and_then_command_input, command_input_load_case_files, input_first_plan, command_replay_inputs, input_plan_from, command_input_files, read_net, read_schedule, command_status_of}
use Rattle.command_line.specs.Exports.{MayBePolicyArguments, ReplayArguments, most_policy_arguments, argument_names_seen}
use Rattle.command_inputs.specs.declared.status.Refusal.{Refusal}
use Rattle.command_inputs.specs.declared.status.Status.{Status}
use Rattle.command_inputs.specs.declared.status.Status.TheVariants as status
use Rattle.command_inputs.specs.declared.status.Stop.{Stop}
use Rattle.command_inputs.specs.declared.status.Stop.TheVariants as stop

-- ---- ports

own_port : NetPortLaws → (net : Net) (files : List PolicyFile) → IsNet net → (a : Action)
    → IsTrue (action_names_only_ports (port_mask net.switches) a) → NamesMachineSettingPort (machine_setting_of net files) a
own_port laws net files sound action.Drop has = tt
own_port laws net files sound (action.Out port) has = sym (laws.mask net port sound) ∙ has

-- what each row that a file gives is follows for each from what else it is
adds_weaker : {P Q : Row → Type 0} → ((row : Row) → P row → Q row) → (edit : Edit)
    → PolicyEditAddsOnly P edit → PolicyEditAddsOnly Q edit
adds_weaker weaker (Remove priority) given = tt
adds_weaker weaker (Add row) given = weaker row given

gives_weaker : {P Q : Row → Type 0} → ((row : Row) → P row → Q row) → (file : PolicyFile)
    → PolicyFileRowsAre P file → PolicyFileRowsAre Q file
gives_weaker weaker (Whole rows) given = λ i d within. weaker _ (given i d within)
gives_weaker weaker (Change edits) given = λ i d within. adds_weaker weaker _ (given i d within)

pub own_ports : NetPortLaws → (net : Net) (files : List PolicyFile) → IsNet net
    → All (PolicyFileRowsAre (λ row. IsTrue (action_names_only_ports (port_mask net.switches) row.action))) files
    → All (PolicyFileRowsAre (λ row. NamesMachineSettingPort (machine_setting_of net files) row.action)) files
own_ports laws net files sound has = λ i d within.
    gives_weaker (λ row. own_port laws net files sound row.action) _ (has i d within)

drawn_port : NetPortLaws → (net : Net) → IsNet net → (a : Action) → NamesLoadCasePort net a
    → IsTrue (action_names_only_ports (port_mask net.switches) a)
drawn_port laws net sound action.Drop names = refl
drawn_port laws net sound (action.Out port) names = laws.mask net port sound ∙ names

-- what is true of each policy is true of the files that have them
all_whole : (P : PolicyFile → Type 0) (policies : List (List Row))
    → All (λ rows. P (Whole rows)) policies → All P (map Whole policies)
all_whole P policies given = λ i d within.
    let there : i < length policies = omega (arith, within, length-map policies Whole) in
    subst P (sym (get_or-map Whole policies i [] d there)) (given i [] there)

-- the files of a load case begin with a policy, are sound, and name ports of its network alone
pub record AreDrawn (load : LoadCase) (files : List PolicyFile) : Type 0 where
  pub first : IsSome (world_first_file_policy files)
  pub sound : All IsSoundPolicyFile files
  pub ports : All (PolicyFileRowsAre (λ row.
      IsTrue (action_names_only_ports (port_mask load.net.switches) row.action))) files

first_drawn : (policies : List (List Row)) → 1 ≤ length policies
    → IsSome (world_first_file_policy (map Whole policies))
first_drawn [] some = absurd (omega (arith, some))
first_drawn (rows ∷ policies) some = refl

pub are_drawn : NetPortLaws → (load : LoadCase) (files : List PolicyFile) → 1 ≤ length load.policies
    → All IsPolicy load.policies → IsPlayableLoadCase load → files ≡ command_input_load_case_files load → AreDrawn load files
are_drawn laws load files some sound may same =
    let HasPort : Row → Type 0 =
    λ row. IsTrue (action_names_only_ports (port_mask load.net.switches) row.action) in
    subst (AreDrawn load) (sym same) (record {
      first = first_drawn load.policies some;
      sound = all_whole IsSoundPolicyFile load.policies sound;
      ports = all_whole (PolicyFileRowsAre HasPort) load.policies (λ i d within j e inside.
          drawn_port laws load.net may.net _ (may.ports i d within j e inside));
    })

-- ---- the first plan

-- a policy that is in force has a plan
pub has_plan : (names : List (List ℕ)) (net : Net) (files : List PolicyFile)
    → IsOk (partition_plan_of (unwrap_or (world_first_file_policy files) []) net) → IsOk (input_first_plan names net files)
has_plan names net files is =
    by (slice_index_or names 0 []) (partition_plan_of (unwrap_or (world_first_file_policy files) []) net) is
  where
    by : (name : List ℕ) (plan : Result (List HostedPolicyPartition) NoPolicyPlan) → IsOk plan → IsOk (input_plan_from name plan)
    by name (Ok hosted) is = refl
    by name (Err why) is = cc is

pub sound_by_tie : (world : WorldValue) → world.is_spent ≡ false
    → (world.is_spent ≡ false → WorldRefinesJournal world) → IsMachineSetting (world_setting_at world)
sound_by_tie world able refines = (refines able).sound

-- ---- events

pub all_are_events : (net : Net) (files : List PolicyFile) (count : ℕ) (setting : Setting)
    (events : List Event) → setting ≡ machine_setting_of net files → length files ≡ count
    → All (IsEventOfSteps net count) events → All (IsEventOfSteps setting.net (length setting.files)) events
all_are_events net files count setting events same many may =
    subst (λ (s : Setting). All (IsEventOfSteps s.net (length s.files)) events) (sym same)
    (subst (λ n. All (IsEventOfSteps net n) events) (sym many) may)

-- there are as many names as the command has
pub as_many : (names owned : List (Bor (List ℕ))) → names ≡ owned
    → length names ≡ length (argument_names_seen owned)
as_many names owned same = ap length same ∙ sym (length-map owned (λ name. name.now))

-- a command names at most so many
pub few_named : (owned : List (Bor (List ℕ))) → MayBePolicyArguments (length owned)
    → length (argument_names_seen owned) ≤ most_policy_arguments
few_named owned may =
    subst (λ (count : ℕ). count ≤ most_policy_arguments) (sym (length-map owned (λ name. name.now))) may.1

-- ---- the inputs of a replay

-- they are as the command asks for them
pub asked_for : (args : ReplayArguments) (net : Net) (read : List PolicyFile) (events : List Event)
    (setting : Setting) → IsCommandInputNetOf args.net net → setting ≡ machine_setting_of net read
    → length read ≡ length args.policies → length args.policies ≤ most_policy_arguments → length events
    ≤ max_events → All (λ file. policy_file_length file ≤ 2000) read
    → AreCommandInputsOfReplay args (record { setting = setting; events = events; report = args.report })
asked_for args net read events setting named own many some few short = record {
  net = subst (λ s. IsCommandInputNetOf args.net s.net) (sym own) named;
  policies = named_each;
  report = refl;
  limits = record {
    files = subst (λ (count : ℕ). count ≤ most_policy_arguments) (sym named_each) some;
    events = few;
    rows = subst (λ s. All (λ file. policy_file_length file ≤ 2000) s.files) (sym own) short;
  };
} where
  named_each : length setting.files ≡ length args.policies
  named_each = ap (λ s. length s.files) own ∙ many

-- what is planned goes on
and_then_ok : {X Y : Type 0} (read : Result X Refusal) (result : Result Y Refusal) → IsOk read
    → and_then_command_input read (λ x. result) ≡ result
and_then_ok (Ok x) result is = refl
and_then_ok (Err refusal) result is = cc is

-- what a replay is to play, where its files are read and the first policy is planned
abbrev pub planned_inputs : ReplayArguments → Net → List PolicyFile → List Event
    → Result Inputs Refusal
planned_inputs args net read events = and_then_command_input (input_first_plan args.policies net read)
    (λ hosted. Ok (record { setting = machine_setting_of net read; events = events; report = args.report }))

-- where all is read, what is left is to plan the first policy
pub inputs_then : (known middle later : Option ShelfFiles) (args : ReplayArguments) (net : Net)
    (read : List PolicyFile) (events : List Event) (count ports : ℕ) → middle ≡ known
    → later ≡ known → count ≡ length args.policies → ports ≡ port_mask net.switches
    → ForSome known (λ files. read_net files args.net ≡ Ok net)
    → ForSome middle (λ files. read_schedule net count files args.schedule ≡ Ok events)
    → ForSome later (λ files. command_input_files true ports files args.policies ≡ Ok read)
    → ForSome known (λ files. command_replay_inputs files args ≡ planned_inputs args net read events)
inputs_then known middle later args net read events count ports first second many mask net_is
    events_are files_are = λ files is. let own_events =
    subst (λ (n : ℕ). read_schedule net n files args.schedule ≡ Ok events) many
    (events_are files (first ∙ is)) in
    let own_files = subst (λ (p : ℕ). command_input_files true p files args.policies ≡ Ok read) mask
    (files_are files (second ∙ is)) in
    rw (net_is files is, own_events, own_files) refl

-- the inputs are what the files state, where these are known
pub inputs_are : (known : Option ShelfFiles) (args : ReplayArguments) (net : Net)
    (read : List PolicyFile) (events : List Event) (setting : Setting)
    → ForSome known (λ files. command_replay_inputs files args ≡ planned_inputs args net read events)
    → IsOk (input_first_plan args.policies net read) → setting ≡ machine_setting_of net read
    → ForSome known (λ files. command_replay_inputs files args
    ≡ Ok (record { setting = setting; events = events; report = args.report }))
inputs_are known args net read events setting left planned own = λ files is.
    left files is ∙ and_then_ok (input_first_plan args.policies net read) _ planned
    ∙ ap (λ s. Ok (record { setting = s; events = events; report = args.report })) (sym own)

-- what accounts for a stop goes on to do so
then_accounts : {X Y : Type 0} (read : Result X Refusal) (next : X → Result Y Refusal) (why : Stop)
    → CommandStatusAccounts read (command_status_of why) → CommandStatusAccounts (and_then_command_input read next) (command_status_of why)
then_accounts read next (stop.Refused refusal) is = rw is refl
then_accounts read next stop.ReadFault is = tt
then_accounts read next stop.NoMemory is = tt

-- where the first policy has no plan, what the files state accounts for the stop
pub plan_accounts : (known : Option ShelfFiles) (args : ReplayArguments) (net : Net)
    (read : List PolicyFile) (events : List Event) (why : Stop)
    → ForSome known (λ files. command_replay_inputs files args ≡ planned_inputs args net read events)
    → CommandStatusAccounts (input_first_plan args.policies net read) (command_status_of why)
    → ForSome known (λ files. CommandStatusAccounts (command_replay_inputs files args) (command_status_of why))
plan_accounts known args net read events why left accounts = λ files is.
    subst (λ (inputs : Result Inputs Refusal). CommandStatusAccounts inputs (command_status_of why))
    (sym (left files is)) (then_accounts (input_first_plan args.policies net read) _ why accounts)

-- a check gives no stop that only a fault gives
no_fault_needed : (files : Option ShelfFiles) (status : Status) → (CommandNeedsReadFault None status → ⊥)
    → CommandNeedsReadFault files status → ⊥
no_fault_needed None status never needs = never needs
no_fault_needed (Some files) status.ReadFault never needs = never tt
no_fault_needed (Some files) status.Ok never needs = needs
no_fault_needed (Some files) (status.No line) never needs = needs
no_fault_needed (Some files) status.Words never needs = needs
no_fault_needed (Some files) (status.Input file code row) never needs = needs
no_fault_needed (Some files) status.WriteFault never needs = needs
no_fault_needed (Some files) (status.Full row) never needs = needs
no_fault_needed (Some files) status.NoMemory never needs = needs

-- a reading that ends at a check of what was read
pub ends_in_check : {X V Y : Type 0} (read : ShelfFiles → Result X Refusal) (seen : V → X)
    (checked : Result Y Refusal) (old new : ShelfState) (why : Stop) (result : Result V Stop)
    → IsErrAnd result (λ stop. stop ≡ why) → CommandInputStopsCheck checked why
    → ForSome old.files (λ files. CommandStatusAccounts (read files) (command_status_of why))
    → CommandInputReadEnds old.files read seen old new result
ends_in_check read seen checked old new why (Ok value) is check accounts = absurd is
ends_in_check read seen checked old new why (Err stop) is check accounts =
    rw is (accounts, λ needs. absurd (no_fault_needed old.files (command_status_of why) check.1 needs))
