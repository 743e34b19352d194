-- The inputs of a replay that is accepted are what its files state.
use Rattle.std.proofs.Common.{[], if◌then◌else◌, ◌∙◌, ◌∷◌, ◌≡◌, Bool, Err, List, None, Ok, Option, Result, Some, ap, false, length, nat_le, refl, subst, sym, true, ℕ}
use Rattle.base.proofs.Exports.{AllZip, ForSome}
use Rattle.net_file.specs.Exports.{net_code, net_of, port_mask}
use Rattle.update_machine.specs.Exports.{Event, InRow, Net, PolicyFile, Whole}
use Rattle.policy_file.specs.Exports.{first_in_policy_file, is_policy_file_change_text, policy_file_refusal_code, policy_file_of}
use Rattle.policy_file.specs.declared.ports.NoPort.{NoPort}
use Rattle.schedule.specs.Reading.{schedule_of}
use Rattle.schedule.specs.Refusals.{schedule_code}
use Rattle.shelf.specs.Exports.{ShelfFiles, shelf_file_named}
use Rattle.command_line.specs.Exports.{Command, ReplayArguments}
use Rattle.command_line.specs.Commands as asked
use Rattle.difane_cli.specs.Exports.{AreProgramInputsStated, AreKnownProgramInputsStated, ProgramFileStates}
use Rattle.command_inputs.specs.Exports.{Inputs, Play, and_then_command_input, command_input_content_from, command_input_content, command_input_first_change_code, input_first_plan, first_command_input_stated, command_replay_inputs, known_command_input_task, command_input_most_file_bytes, command_input_net_stated, command_input_play_task, input_policy_stated, read_file, command_input_files, input_read_from, read_net, read_schedule, input_file_refused_whole, command_input_schedule_in, input_stated_as, command_input_task_of, command_input_too_long_code, input_with_ports}
use Rattle.command_inputs.specs.declared.status.Refusal.{Refusal}
use Rattle.command_inputs.proofs.InputFileChecks.{stated_so}

-- ---- one file

-- what was read went on
went_on : {X Y : Type 0} (read : Result X Refusal) (next : X → Result Y Refusal) (y : Y)
    → and_then_command_input read next ≡ Ok y → (x : X) × (read ≡ Ok x) × (next x ≡ Ok y)
went_on (Ok x) next y is = (x, refl, is)
went_on (Err refusal) next y is = absurd (cc is)

same_value : {X : Type 0} (read : Result X Refusal) (x y : X) → read ≡ Ok x → read ≡ Ok y → x ≡ y
same_value read x y one two = cc (one, two)

content_is : (name : List ℕ) (found : Option (List ℕ)) (bytes : List ℕ)
    → command_input_content_from command_input_most_file_bytes name found ≡ Ok bytes → found ≡ Some bytes
content_is name None bytes is = absurd (cc is)
content_is name (Some held) bytes is = by (nat_le (length held) command_input_most_file_bytes) is where
  by : (few : Bool) → (if few then Ok held else Err (input_file_refused_whole name command_input_too_long_code)) ≡ Ok bytes
      → Some held ≡ Some bytes
  by true is = cc is
  by false is = absurd (cc is)

-- a file whose content was read to a value states it
states : {V E : Type 0} (files : ShelfFiles) (name : List ℕ) (read : List ℕ → Result V E)
    (stated : List ℕ → Result V Refusal) (value : V)
    → ((bytes : List ℕ) → stated bytes ≡ Ok value → read bytes ≡ Ok value)
    → and_then_command_input (command_input_content files name) stated ≡ Ok value → ProgramFileStates files read name value
states files name read stated value own is =
    let on = went_on (command_input_content files name) stated value is in
    (on.0, content_is name (shelf_file_named files name) on.0 on.1, own on.0 on.2)

-- ---- networks, schedules and policies

read_is : {X R : Type 0} (code : R → ℕ) (name : List ℕ) (read : Result X (InRow R)) (value : X)
    → input_read_from code name read ≡ Ok value → read ≡ Ok value
read_is code name (Ok value) own is = cc is
read_is code name (Err refused) own is = absurd (cc is)

net_states : (files : ShelfFiles) (name : List ℕ) (net : Net) → read_net files (Some name) ≡ Ok net
    → ProgramFileStates files net_of name net
net_states files name net is =
    states files name net_of (command_input_net_stated name) net (λ bytes. read_is net_code name (net_of bytes) net) is

schedule_states : (net : Net) (count : ℕ) (files : ShelfFiles) (name : List ℕ) (events : List Event)
    → read_schedule net count files name ≡ Ok events
    → ProgramFileStates files (schedule_of net count) name events
schedule_states net count files name events is =
    states files name (schedule_of net count) (command_input_schedule_in net count name) events
    (λ bytes. read_is schedule_code name (schedule_of net count bytes) events) is

with_ports_is : {X : Type 0} (name : List ℕ) (value own : X) (lack : Option NoPort)
    → input_with_ports name value lack ≡ Ok own → value ≡ own
with_ports_is name value own None is = same_value (Ok value) value own refl is
with_ports_is name value own (Some lack) is = absurd (cc is)

-- a value that names only ports that are there was read
ported_is : {X R : Type 0} (code : R → ℕ) (name : List ℕ) (read : Result X (InRow R))
    (lack : X → Option NoPort) (value : X)
    → and_then_command_input (input_read_from code name read) (λ own. input_with_ports name own (lack own)) ≡ Ok value
    → read ≡ Ok value
ported_is code name read lack value is =
    let on = went_on (input_read_from code name read) (λ own. input_with_ports name own (lack own)) value is in
    read_is code name read value (on.1 ∙ ap Ok (with_ports_is name on.0 value (lack on.0) on.2))

-- a first file that is accepted is no change
no_change : (ports : ℕ) (name bytes : List ℕ) (file : PolicyFile)
    → first_command_input_stated ports name bytes ≡ Ok file → is_policy_file_change_text bytes ≡ false
no_change ports name bytes file is = by (is_policy_file_change_text bytes) is where
  by : (changes : Bool) → (if changes then Err (input_file_refused_whole name command_input_first_change_code)
      else and_then_command_input (input_policy_stated ports name bytes) (λ rows. Ok (Whole rows))) ≡ Ok file
      → changes ≡ false
  by true is = absurd (cc is)
  by false is = refl

stated_is : (is_first : Bool) (ports : ℕ) (name bytes : List ℕ) (file : PolicyFile)
    → input_stated_as is_first ports name bytes ≡ Ok file → policy_file_of bytes ≡ Ok file
stated_is is_first ports name bytes file is = ported_is policy_file_refusal_code name (policy_file_of bytes)
    (first_in_policy_file ports) file (sym (stated_so is_first ports name bytes (λ first. no_change ports
    name bytes file (subst (λ (b : Bool). input_stated_as b ports name bytes ≡ Ok file) first is))) ∙ is)

file_states : (is_first : Bool) (ports : ℕ) (files : ShelfFiles) (name : List ℕ) (file : PolicyFile)
    → read_file is_first ports files name ≡ Ok file → ProgramFileStates files policy_file_of name file
file_states is_first ports files name file is = states files name policy_file_of
    (input_stated_as is_first ports name) file (λ bytes. stated_is is_first ports name bytes file) is

files_state : (is_first : Bool) (ports : ℕ) (files : ShelfFiles) (names : List (List ℕ))
    (read : List PolicyFile) → command_input_files is_first ports files names ≡ Ok read
    → AllZip (ProgramFileStates files policy_file_of) names read
files_state is_first ports files [] read is =
    subst (AllZip (ProgramFileStates files policy_file_of) []) (same_value (Ok []) [] read refl is) tt
files_state is_first ports files (name ∷ names) read is =
    let first = went_on (read_file is_first ports files name) _ read is in
    let others = went_on (command_input_files false ports files names) (λ more. Ok (first.0 ∷ more)) read
    first.2 in
    subst (AllZip (ProgramFileStates files policy_file_of) (name ∷ names))
    (same_value (Ok (first.0 ∷ others.0)) _ read refl others.2) (
      file_states is_first ports files name first.0 first.1,
      files_state false ports files names others.0 others.1,
    )

-- ---- all files of a replay

inputs_state : (files : ShelfFiles) (command : ReplayArguments) (inputs : Inputs)
    → command_replay_inputs files command ≡ Ok inputs → AreProgramInputsStated files command inputs
inputs_state files command inputs is =
    let net = went_on (read_net files command.net) _ inputs is in
    let count = length command.policies in
    let events = went_on (read_schedule net.0 count files command.schedule) _ inputs net.2 in
    let ports = port_mask net.0.switches in
    let policies = went_on (command_input_files true ports files command.policies) _ inputs events.2 in
    let planned = went_on (input_first_plan command.policies net.0 policies.0) _ inputs policies.2 in
    subst (AreProgramInputsStated files command) (same_value _ _ inputs refl planned.2)
    (record {
      net = λ name named. net_states files name net.0
          (subst (λ given. read_net files given ≡ Ok net.0) named net.1);
      events = schedule_states net.0 count files command.schedule events.0 events.1;
      policies = files_state true ports files command.policies policies.0 policies.1;
    })

play_is : (read : Result Inputs Refusal) (inputs : Inputs)
    → command_input_play_task read ≡ Ok (Play inputs) → read ≡ Ok inputs
play_is (Ok own) inputs is = cc is
play_is (Err refusal) inputs is = absurd (cc is)

-- the inputs of the known task are those that the files state
pub stated_by : (files : Option ShelfFiles) (command : Command) (inputs : Inputs)
    → ForSome (known_command_input_task files (Some command)) (λ read. read ≡ Ok (Play inputs))
    → AreKnownProgramInputsStated files command inputs
stated_by files (asked.Replay replay) inputs accepted = λ all known.
    inputs_state all replay inputs (play_is (command_replay_inputs all replay) inputs
    (accepted _ (ap (λ held. command_input_task_of held (asked.Replay replay)) known)))
stated_by files (asked.Print print) inputs accepted = tt
stated_by files (asked.Load n) inputs accepted = tt
stated_by files (asked.Audit args) inputs accepted = tt
