-- Checks of what the bytes of a file of a policy state.
use Rattle.std.proofs.Common.{◌≡◌, Bool, Err, IsSome, List, None, Ok, Option, Result, Some, ap, false, refl, sym, true, ℕ}
use Rattle.base.specs.Exports.{IsCallRefusal}
use Rattle.update_machine.specs.Exports.{Failure, InRow, PolicyFile, Row, Whole}
use Rattle.base.specs.declared.error.Failure.TheVariants as failure
use Rattle.policy_file.specs.Exports.{first_in_policy_file, policy_file_first_row_without_port, is_policy_file_change_text, policy_file_read_as, policy_file_refusal_code, policy_file_of, policy_file_policy_of}
use Rattle.policy_file.specs.declared.error.PolicyRefusal.{PolicyRefusal}
use Rattle.policy_file.specs.declared.ports.NoPort.{NoPort}
use Rattle.world.specs.Exports.{world_file_own_policy}
use Rattle.command_inputs.specs.Exports.{CommandStatusAccounts, CommandInputStopsText, and_then_command_input, input_file_stated, first_command_input_stated, input_read_from, input_stated_as, command_status_of, input_with_ports}
use Rattle.command_inputs.specs.declared.status.Refusal.{Refusal}
use Rattle.command_inputs.specs.declared.status.Stop.{Stop}
use Rattle.command_inputs.specs.declared.status.Stop.TheVariants as stop

-- a stop at the text is one of all that is read from it
pub text_accounts : {X Y R : Type 0} (code : R → ℕ) (name : List ℕ) (read : Result X (InRow R))
    (next : X → Result Y Refusal) (error : Failure (InRow R)) (why : Stop) → IsCallRefusal read error
    → CommandInputStopsText code name error why
    → CommandStatusAccounts (and_then_command_input (input_read_from code name read) next) (command_status_of why)
text_accounts code name read next (failure.Refused row) (stop.Refused refusal) is same =
    rw is (ap Err (sym same))
text_accounts code name read next (failure.Refused row) stop.NoMemory is same = tt
text_accounts code name read next (failure.Refused row) stop.ReadFault is same = tt
text_accounts code name read next failure.NoMemory (stop.Refused refusal) is same = absurd (cc same)
text_accounts code name read next failure.NoMemory stop.NoMemory is same = tt
text_accounts code name read next failure.NoMemory stop.ReadFault is same = tt

-- a text that is no change's is a policy's
is_policy : (bytes : List ℕ) → is_policy_file_change_text bytes ≡ false
    → policy_file_of bytes ≡ policy_file_read_as Whole (policy_file_policy_of bytes)
unfolding policy_file_of
is_policy bytes none = rw none refl

pub is_whole : (bytes : List ℕ) (file : PolicyFile) → is_policy_file_change_text bytes ≡ false
    → policy_file_of bytes ≡ Ok file → IsSome (world_file_own_policy file)
is_whole bytes file none is = by (policy_file_policy_of bytes) file (rw (is_policy bytes none) at is) where
  by : (read : Result (List Row) (InRow PolicyRefusal)) (file : PolicyFile)
      → policy_file_read_as Whole read ≡ Ok file → IsSome (world_file_own_policy file)
  by (Ok rows) (Whole own) is = refl
  by (Ok rows) _ is = absurd (cc is)
  by (Err refused) file is = absurd (cc is)

-- so a first file that is no change is checked as any other
first_is : (ports : ℕ) (name bytes : List ℕ) → is_policy_file_change_text bytes ≡ false
    → first_command_input_stated ports name bytes ≡ input_file_stated ports name bytes
first_is ports name bytes none = rw (none, is_policy bytes none) (by (policy_file_policy_of bytes)) where
  by_ports : (rows : List Row) (lack : Option NoPort)
      → and_then_command_input (input_with_ports name rows lack) (λ own. Ok (Whole own))
      ≡ input_with_ports name (Whole rows) lack
  by_ports rows None = refl
  by_ports rows (Some lack) = refl

  by : (read : Result (List Row) (InRow PolicyRefusal))
      → and_then_command_input (and_then_command_input (input_read_from policy_file_refusal_code name read)
      (λ rows. input_with_ports name rows (policy_file_first_row_without_port ports rows))) (λ own. Ok (Whole own))
      ≡ and_then_command_input (input_read_from policy_file_refusal_code name (policy_file_read_as Whole read))
      (λ file. input_with_ports name file (first_in_policy_file ports file))
  by (Ok rows) = by_ports rows (policy_file_first_row_without_port ports rows)
  by (Err refused) = refl

pub stated_so : (is_first : Bool) (ports : ℕ) (name bytes : List ℕ)
    → (is_first ≡ true → is_policy_file_change_text bytes ≡ false)
    → input_stated_as is_first ports name bytes ≡ input_file_stated ports name bytes
stated_so true ports name bytes none = first_is ports name bytes (none refl)
stated_so false ports name bytes none = refl
