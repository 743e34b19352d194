-- Readings one after another, and where they stop.
use Rattle.std.proofs.Common.{◌∙◌, ◌≡◌, ◌⊎◌, Err, IsErrAnd, List, None, Ok, Option, Result, Some, refl, subst, sym, ℕ}
use Rattle.base.proofs.Exports.{ForSome}
use Rattle.shelf.specs.Exports.{ShelfFiles, IsShelfAfterReads, ShelfState}
use Rattle.command_inputs.specs.Exports.{IsCalmCommandInputRead, CommandMayFollowFault, CommandStatusNamesOneOf, ReadsFiles, RefusesInput, command_input_missing_file_code, command_status_of, command_input_too_long_code}
use Rattle.command_inputs.specs.declared.status.Refusal.{Refusal}
use Rattle.command_inputs.specs.declared.status.Stop.{Stop}
use Rattle.command_inputs.specs.declared.status.Stop.TheVariants as stop
use Rattle.command_inputs.proofs.InputRefusedNames.{AreAmong, among}

-- no fault was counted, unless the stop is one that may follow a fault
abbrev pub IsCalmStop : (old new : ShelfState) → Stop → Type 0
IsCalmStop old new why = ¬ CommandMayFollowFault old.files (command_status_of why) → new.faults ≡ old.faults

-- a reading that ends with this stop
pub stops_with : {V : Type 0} (few all : List (List ℕ)) (most : ℕ) (old new : ShelfState)
    (why : Stop) (result : Result V Stop) → IsErrAnd result (λ stop. stop ≡ why)
    → AreAmong few all → IsShelfAfterReads most old new → IsCalmStop old new why
    → CommandStatusNamesOneOf few (command_status_of why) → ReadsFiles all most old new result
stops_with few all most old new why (Ok value) is wider after calm named = absurd is
stops_with few all most old new why (Err stop) is wider after calm named = rw is (record {
  after = after;
  calm = calm;
  stops = among few all (command_status_of why) wider named;
})

-- one that ends with the stop of the last of its readings, before which no fault was counted
pub stops_behind : {V : Type 0} {n m : ℕ} (few all : List (List ℕ)) (most : ℕ)
    (old middle new : ShelfState) (why : Stop) (result : Result V Stop)
    → IsErrAnd result (λ stop. stop ≡ why) → AreAmong few all → IsShelfAfterReads most old new
    → IsShelfAfterReads n old middle → middle.faults ≡ old.faults → IsShelfAfterReads m middle new
    → IsCalmStop middle new why → CommandStatusNamesOneOf few (command_status_of why)
    → ReadsFiles all most old new result
stops_behind few all most old middle new why result is wider after first none second calm named =
    stops_with few all most old new why result is wider after
    (λ may. calm (λ follows. may (subst (λ (files : Option ShelfFiles).
    CommandMayFollowFault files (command_status_of why)) first.same_files follows)) ∙ none) named

-- none was counted at all
pub all_calm : {V : Type 0} (old new : ShelfState) (result : Result V Stop)
    → new.faults ≡ old.faults → IsCalmCommandInputRead old new result
all_calm old new (Ok value) calm = calm
all_calm old new (Err why) calm = λ may. calm

-- a refusal of an absent file, or of one too long, may follow a fault where files aren't known
pub refused_calm : (old new : ShelfState) (given : Refusal) (why : Stop)
    → (given.code ≡ command_input_missing_file_code) ⊎ (given.code ≡ command_input_too_long_code) → RefusesInput given why
    → ForSome old.files (λ files. new.faults ≡ old.faults) → IsCalmStop old new why
refused_calm old new given why code refuses known = by old.files refl where
  follows : (why : Stop) → RefusesInput given why → CommandMayFollowFault None (command_status_of why)
  follows (stop.Refused refusal) is =
      subst (λ (other : Refusal). (other.code ≡ command_input_missing_file_code) ⊎ (other.code ≡ command_input_too_long_code)) (sym is)
      code
  follows stop.NoMemory is = tt
  follows stop.ReadFault is = absurd is

  by : (files : Option ShelfFiles) → old.files ≡ files → IsCalmStop old new why
  by None is = λ may. absurd (may
      (subst (λ (files : Option ShelfFiles). CommandMayFollowFault files (command_status_of why)) (sym is)
      (follows why refuses)))
  by (Some files) is = λ may. known files is
