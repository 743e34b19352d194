-- Files of policies that are read one after another.
use Rattle.std.proofs.Common.{[], ◌++◌, ◌+◌, ◌<◌, ◌==◌, ◌∙◌, ◌∷◌, ◌≡◌, ◌≤◌, Bool, Bor, Err, IsErrAnd, IsSome, List, None, Ok, Option, Result, Some, add-one, ap, append-nil, append_assoc, arith, drop, drop-cons, false, get_or, length, length-append, ne_eqb, refl, subst, sym, true, ℕ}
use Rattle.base.proofs.Exports.{ForSome, get_or-map, length-map}
use Rattle.update_machine.specs.Exports.{PolicyFile}
use Rattle.shelf.specs.Exports.{ShelfFiles, IsShelfAfterReads, ShelfState}
use Rattle.world.specs.Exports.{world_first_file_policy, world_file_own_policy}
use Rattle.command_inputs.proofs.InputShelfReads.{reads_then}
use Rattle.command_line.specs.Exports.{argument_names_seen}
use Rattle.command_inputs.specs.Exports.{CommandStatusAccounts, CommandInputReadEnds, and_then_command_input, command_input_file_reads, read_file, command_input_files, command_status_of, input_files_to_refusal}
use Rattle.command_inputs.specs.declared.status.Refusal.{Refusal}
use Rattle.command_inputs.specs.declared.status.Stop.{Stop}
use Rattle.command_inputs.specs.declared.status.Stop.TheVariants as stop

-- ---- names

-- the next name is before those that are left
next_name : (names : List (List ℕ)) (i : ℕ) → i < length names
    → drop i names ≡ get_or names i [] ∷ drop (i + 1) names
next_name names i within = rw (drop-cons names i [] within, add-one i) refl

pub name_there : (names : List (Bor (List ℕ))) (i : ℕ) (d : Bor (List ℕ)) → i < length names
    → (get_or names i d).now ≡ get_or (argument_names_seen names) i []
name_there names i d within = sym (get_or-map (λ n. n.now) names i d [] within)

-- ---- what was read

-- what these files and those that are still to be read are in the end
abbrev pub and_more : List PolicyFile → Result (List PolicyFile) Refusal
    → Result (List PolicyFile) Refusal
and_more own read = and_then_command_input read (λ more. Ok (own ++ more))

-- the next file is the first
abbrev pub is_none : List PolicyFile → Bool
is_none own = length own == 0

-- of the files of these names, some were read, and those of some names are left
pub record HasRead (ports : ℕ) (names left : List (List ℕ)) (own : List PolicyFile)
    (old now : ShelfState) : Type 0 where
  pub value : ForSome old.files (λ files. command_input_files true ports files names
      ≡ and_more own (command_input_files (is_none own) ports files left))
  pub after : IsShelfAfterReads (length own) old now
  pub most : command_input_file_reads true ports old.files names
      ≡ length own + command_input_file_reads (is_none own) ports old.files left

no_more : (read : Result (List PolicyFile) Refusal) → and_more [] read ≡ read
no_more (Ok own) = refl
no_more (Err refusal) = refl

pub none_read : (ports : ℕ) (names : List (List ℕ)) (shelf : ShelfState)
    → HasRead ports names names [] shelf shelf
none_read ports names shelf = record {
  value = λ files is. sym (no_more (command_input_files true ports files names));
  after = record { same_files = refl; faults = omega arith; reads = (0, omega arith, refl) };
  most = omega arith;
}

-- so it is before what is left
pub at_next : (ports : ℕ) (names : List (Bor (List ℕ))) (i : ℕ) (own : List PolicyFile)
    (old now : ShelfState)
    → HasRead ports (argument_names_seen names) (drop i (argument_names_seen names)) own old now → i < length names
    → HasRead ports (argument_names_seen names)
    (get_or (argument_names_seen names) i [] ∷ drop (i + 1) (argument_names_seen names)) own old now
at_next ports names i own old now so_far within =
    subst (λ (left : List (List ℕ)). HasRead ports (argument_names_seen names) left own old now)
    (next_name (argument_names_seen names) i (omega (arith, length-map names (λ n. n.now), within))) so_far

-- ---- one more

more_by : (own : List PolicyFile) (file : PolicyFile) (read : Result (List PolicyFile) Refusal)
    → and_more own (and_then_command_input read (λ more. Ok (file ∷ more))) ≡ and_more (own ++ file ∷ []) read
more_by own file (Ok more) = ap Ok (sym (append_assoc own (file ∷ []) more))
more_by own file (Err refusal) = refl

accepted_read : (is_first : Bool) (ports : ℕ) (known : Option ShelfFiles) (name : List ℕ)
    (left : List (List ℕ)) (file : PolicyFile)
    → ForSome known (λ files. read_file is_first ports files name ≡ Ok file)
    → command_input_file_reads is_first ports known (name ∷ left) ≡ 1 + command_input_file_reads false ports known left
accepted_read is_first ports None name left file is = omega arith
accepted_read is_first ports (Some files) name left file is = rw (is files refl) refl

-- behind one there is one
some_behind : (own : List PolicyFile) (file : PolicyFile) → is_none (own ++ file ∷ []) ≡ false
some_behind [] file = refl
some_behind (one ∷ own) file =
    ne_eqb (length (one ∷ (own ++ file ∷ []))) 0 (λ is. omega (arith, is))

-- the first of them has a policy of its own
pub first_behind : (own : List PolicyFile) (file : PolicyFile) (i : ℕ) (is_first : Bool)
    → length own ≡ i → is_first ≡ is_none own → (0 < i → IsSome (world_first_file_policy own))
    → (is_first ≡ true → IsSome (world_file_own_policy file)) → IsSome (world_first_file_policy (own ++ file ∷ []))
first_behind [] file i is_first many none so_far next = next none
first_behind (one ∷ own) file i is_first many none so_far next = so_far (omega (arith, many))

pub one_read : (ports : ℕ) (names left : List (List ℕ)) (name : List ℕ) (own : List PolicyFile)
    (file : PolicyFile) (old middle now : ShelfState) → HasRead ports names (name ∷ left) own old
    middle → ForSome middle.files (λ files. read_file (is_none own) ports files name ≡ Ok file)
    → IsShelfAfterReads 1 middle now → HasRead ports names left (own ++ file ∷ []) old now
one_read ports names left name own file old middle now so_far read then =
    let this : ForSome old.files (λ files. read_file (is_none own) ports files name ≡ Ok file) =
    λ files is. read files (so_far.after.same_files ∙ is) in
    let longer = length-append own (file ∷ []) in
    let reads = ap (λ b. command_input_file_reads b ports old.files left) (some_behind own file) in record {
      value = λ files is. so_far.value files is
          ∙ rw (this files is) (more_by own file (command_input_files false ports files left))
          ∙ ap (λ b. and_more (own ++ file ∷ []) (command_input_files b ports files left))
          (sym (some_behind own file));
      after = reads_then (length own) 1 _ old middle now (omega (arith, longer)) so_far.after then;
      most = omega (
        arith,
        so_far.most,
        longer,
        reads,
        accepted_read (is_none own) ports old.files name left file this,
      );
    }

-- ---- where the reading ends

-- what the next one is refused for, all are
refuses : (read : Result PolicyFile Refusal) (own : List PolicyFile)
    (next : PolicyFile → Result (List PolicyFile) Refusal) (given : Stop) → CommandStatusAccounts read
    (command_status_of given) → CommandStatusAccounts (and_more own (and_then_command_input read next)) (command_status_of given)
refuses read own next (stop.Refused refusal) is = rw is refl
refuses read own next stop.ReadFault is = tt
refuses read own next stop.NoMemory is = tt

-- the next one stops it, and its stop is handed on
pub stops_at : {V : Type 0} (ports : ℕ) (names left : List (List ℕ)) (name : List ℕ)
    (own : List PolicyFile) (seen : V → List PolicyFile) (old middle now : ShelfState)
    (given : Stop) (result : Result V Stop) → IsErrAnd result (λ stop. stop ≡ given)
    → HasRead ports names (name ∷ left) own old middle
    → CommandInputReadEnds middle.files (λ files. read_file (is_none own) ports files name)
    (λ (file : PolicyFile). file) middle now (Err given)
    → CommandInputReadEnds old.files (λ files. command_input_files true ports files names) seen old now result
stops_at ports names left name own seen old middle now given (Ok value) same so_far ends =
    absurd same
stops_at ports names left name own seen old middle now given (Err stop) same so_far ends = rw same (
  λ files is. subst (λ (read : Result (List PolicyFile) Refusal). CommandStatusAccounts read (command_status_of given))
      (sym (so_far.value files is))
      (refuses _ own _ given (ends.0 files (so_far.after.same_files ∙ is))),
  λ needs. omega (arith, so_far.after.faults, ends.1 (rw so_far.after.same_files needs)),
)

-- one is read at least
some_read : (is_first : Bool) (ports : ℕ) (known : Option ShelfFiles) (name : List ℕ)
    (left : List (List ℕ)) → 1 ≤ command_input_file_reads is_first ports known (name ∷ left)
some_read is_first ports None name left = omega arith
some_read is_first ports (Some files) name left = by _ _ where
  by : (accepted : Bool) (others : List Bool) → 1 ≤ input_files_to_refusal (accepted ∷ others)
  by true others = omega arith
  by false others = omega arith

pub reads_at : (ports : ℕ) (names left : List (List ℕ)) (name : List ℕ) (own : List PolicyFile)
    (old middle now : ShelfState) → HasRead ports names (name ∷ left) own old middle
    → IsShelfAfterReads 1 middle now → IsShelfAfterReads (command_input_file_reads true ports old.files names) old now
reads_at ports names left name own old middle now so_far then =
    reads_then (length own) 1 _ old middle now
    (omega (arith, so_far.most, some_read (is_none own) ports old.files name left)) so_far.after
    then

-- all are read
pub all_read : (ports : ℕ) (names : List (List ℕ)) (own : List PolicyFile)
    (old now : ShelfState) → HasRead ports names [] own old now
    → ForSome old.files (λ files. command_input_files true ports files names ≡ Ok own)
all_read ports names own old now so_far = λ files is. so_far.value files is ∙ ap Ok (append-nil own)

none_left : (is_first : Bool) (ports : ℕ) (known : Option ShelfFiles)
    → command_input_file_reads is_first ports known [] ≡ 0
none_left is_first ports None = refl
none_left is_first ports (Some files) = refl

pub reads_all : (ports : ℕ) (names : List (List ℕ)) (own : List PolicyFile)
    (old now : ShelfState) → HasRead ports names [] own old now
    → IsShelfAfterReads (command_input_file_reads true ports old.files names) old now
reads_all ports names own old now so_far = subst (λ (n : ℕ). IsShelfAfterReads n old now)
    (omega (arith, so_far.most, none_left (is_none own) ports old.files)) so_far.after
