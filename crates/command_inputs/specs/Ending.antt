-- Which status a command ends with, and what causes it.
use Rattle.std.specs.Prelude.{[], ◌++◌, ◌∷◌, ◌≡◌, ◌⊎◌, Err, IsOk, List, None, Ok, Option, Result, Some, option_to_list, ℕ, ⊤}
use Rattle.base.specs.Exports.{ForSome}
use Rattle.update_machine.specs.Exports.{Failure, InRow}
use Rattle.base.specs.declared.error.Failure.TheVariants as failure
use Rattle.shelf.specs.Exports.{ShelfFiles, IsShelfAfterReads, SinkFaultsRose, ShelfState}
use Rattle.shelf.specs.declared.output.SinkError.{SinkError}
use Rattle.command_line.specs.Exports.{Command}
use Rattle.command_line.specs.Commands as asked
use Rattle.command_inputs.specs.Codes.{command_input_missing_file_code, command_input_too_long_code}
use Rattle.command_inputs.specs.Inputs.{command_load_input_name, command_input_most_reads}
use Rattle.command_inputs.specs.declared.status.Refusal.{Refusal}
use Rattle.command_inputs.specs.declared.status.Status.{Status}
use Rattle.command_inputs.specs.declared.status.Stop.{Stop}
use Rattle.shelf.specs.declared.output.SinkError.TheVariants as sink
use Rattle.command_inputs.specs.declared.status.Status.TheVariants as status
use Rattle.command_inputs.specs.declared.status.Stop.TheVariants as stop

-- the status of a command that ended before its work
abbrev pub command_status_of : Stop → Status
command_status_of (stop.Refused refusal) = status.Input refusal.file refusal.code refusal.row
command_status_of stop.ReadFault = status.ReadFault
command_status_of stop.NoMemory = status.NoMemory

-- the status of a command whose output is written: by whether its play ran to its end, or stopped
-- full at a row
abbrev pub command_written_status : Option ℕ → Status
command_written_status None = status.Ok
command_written_status (Some row) = status.Full row

-- the status of a command whose output could not be written
abbrev pub command_unwritten_status : SinkError → Status
command_unwritten_status sink.Failed = status.WriteFault
command_unwritten_status sink.NoMemory = status.NoMemory

-- the status of a command after its work
abbrev pub command_status_after : Result (⊤) SinkError → Option ℕ → Status
command_status_after (Ok done) full = command_written_status full
command_status_after (Err error) full = command_unwritten_status error

abbrev pub command_status_number : Status → ℕ
command_status_number status.Ok = 0
command_status_number (status.No line) = 1
command_status_number status.Words = 2
command_status_number (status.Input file code row) = 3
command_status_number status.ReadFault = 4
command_status_number status.WriteFault = 5
command_status_number (status.Full row) = 6
command_status_number status.NoMemory = 7

-- a status that only a fault of the shelf causes: a read fault; and if the files are not known, an
-- absent file or one too long
abbrev pub CommandNeedsReadFault : Option ShelfFiles → Status → Type 0
CommandNeedsReadFault files status.ReadFault = ⊤
CommandNeedsReadFault None (status.Input file code row) = (code ≡ command_input_missing_file_code) ⊎ (code ≡ command_input_too_long_code)
CommandNeedsReadFault _ _ = ⊥

-- a status with which the shelf may have counted a fault: one that only a fault causes; and if the
-- files are not known, out of memory, which may occur while an absent file is reported
abbrev pub CommandMayFollowFault : Option ShelfFiles → Status → Type 0
CommandMayFollowFault files status.ReadFault = ⊤
CommandMayFollowFault None (status.Input file code row) = (code ≡ command_input_missing_file_code) ⊎ (code ≡ command_input_too_long_code)
CommandMayFollowFault None status.NoMemory = ⊤
CommandMayFollowFault _ _ = ⊥

-- what a status says of what there is to read: a refusal is the one that the definitions give, and
-- work was done only on what they accept
abbrev pub CommandStatusAccounts : {X : Type 0} → Result X Refusal → Status → Type 0
CommandStatusAccounts read (status.Input file code row) =
    read ≡ Err (record { file = file; code = code; row = row })
CommandStatusAccounts read status.Words = ⊥
CommandStatusAccounts read status.Ok = IsOk read
CommandStatusAccounts read (status.No line) = IsOk read
CommandStatusAccounts read status.WriteFault = IsOk read
CommandStatusAccounts read (status.Full row) = IsOk read
CommandStatusAccounts read _ = ⊤

-- how a reading ends: with the value that the known files give, as `seen` shows it; or with a stop
-- for which the known files account, and with a fault of the shelf if it needs one
abbrev pub CommandInputReadEnds : {K X V : Type 0} → (known : Option K) → (read : K → Result X Refusal)
    → (seen : V → X) → (old new : ShelfState) → Result V Stop → Type 0
CommandInputReadEnds known read seen old new (Ok value) = ForSome known (λ given. read given ≡ Ok (seen value))
CommandInputReadEnds known read seen old new (Err stop) =
    ForSome known (λ given. CommandStatusAccounts (read given) (command_status_of stop))
    × (CommandNeedsReadFault old.files (command_status_of stop) → SinkFaultsRose old.faults new.faults)

-- a reading counts no fault, unless it stops as one that met a fault may
abbrev pub IsCalmCommandInputRead : {V : Type 0} → (old new : ShelfState) → Result V Stop → Type 0
IsCalmCommandInputRead old new (Ok value) = new.faults ≡ old.faults
IsCalmCommandInputRead old new (Err stop) =
    ¬ CommandMayFollowFault old.files (command_status_of stop) → new.faults ≡ old.faults

-- ---- which names a refusal may name

-- the names that the arguments have: of the network, of files, and of the switch; a load case has
-- its own name
abbrev pub command_input_names : Option Command → List (List ℕ)
command_input_names None = []
command_input_names (Some (asked.Replay args)) = option_to_list args.net ++ args.schedule ∷ args.policies
command_input_names (Some (asked.Print args)) =
    option_to_list args.net ++ args.policy ∷ option_to_list args.switch
command_input_names (Some (asked.Load n)) = command_load_input_name ∷ []
command_input_names (Some (asked.Audit args)) = args.trace ∷ args.policies

abbrev pub IsOneOfCommandInputNames : List (List ℕ) → List ℕ → Type 0
IsOneOfCommandInputNames [] file = ⊥
IsOneOfCommandInputNames (name ∷ names) file = (file ≡ name) ⊎ IsOneOfCommandInputNames names file

-- a refusal names one of these; and that of a file that is absent, or too long, names row 0
abbrev pub CommandStatusNamesOneOf : List (List ℕ) → Status → Type 0
CommandStatusNamesOneOf names (status.Input file code row) = IsOneOfCommandInputNames names file
    × ((code ≡ command_input_missing_file_code) ⊎ (code ≡ command_input_too_long_code) → row ≡ 0)
CommandStatusNamesOneOf names _ = ⊤

-- the same for a reading that stops
abbrev pub CommandInputStopNamesOneOf : {V : Type 0} → List (List ℕ) → Result V Stop → Type 0
CommandInputStopNamesOneOf names (Ok value) = ⊤
CommandInputStopNamesOneOf names (Err stop) = CommandStatusNamesOneOf names (command_status_of stop)

-- a reading of the files of these names, by at most this many reads of the shelf: it counts no
-- fault, unless it stops as one that met a fault may, and what it refuses is one of them
pub record ReadsFiles {V : Type 0} (names : List (List ℕ)) (most : ℕ) (old new : ShelfState)
    (result : Result V Stop) : Type 0 where
  pub after : IsShelfAfterReads most old new
  pub calm : IsCalmCommandInputRead old new result
  pub stops : CommandInputStopNamesOneOf names result

-- the same for what a command names
abbrev pub CommandInputReadsFor : {V : Type 0} → Command → (old new : ShelfState) → Result V Stop → Type 0
CommandInputReadsFor command old new result =
    ReadsFiles (command_input_names (Some command)) (command_input_most_reads old.files (Some command)) old new result

-- no file is read: a load case has none, and arguments that the grammar refuses name none to read
abbrev pub CommandInputReadsNothing : Option Command → Type 0
CommandInputReadsNothing None = ⊤
CommandInputReadsNothing (Some (asked.Load n)) = ⊤
CommandInputReadsNothing _ = ⊥

-- ---- checks of what was read

-- the stop is this refusal, or that memory ran out
abbrev pub RefusesInput : Refusal → Stop → Type 0
RefusesInput given (stop.Refused refusal) = refusal ≡ given
RefusesInput given stop.NoMemory = ⊤
RefusesInput given stop.ReadFault = ⊥

-- a stop at a check of what was read: this accounts for it, and no fault causes it
abbrev pub CommandInputStopsCheck : {X : Type 0} → Result X Refusal → Stop → Type 0
CommandInputStopsCheck read stop = CommandStatusAccounts read (command_status_of stop) × (CommandNeedsReadFault None (command_status_of stop) → ⊥)

-- a stop at a text that is refused in a row by a refusal of this code, or for which memory ran out
abbrev pub CommandInputStopsText : {R : Type 0} → (R → ℕ) → List ℕ → Failure (InRow R) → Stop → Type 0
CommandInputStopsText code name (failure.Refused why) stop =
    RefusesInput (record { file = name; code = code why.refusal; row = why.row }) stop
CommandInputStopsText code name failure.NoMemory why = why ≡ stop.NoMemory
