-- Which names a refusal names.
use Rattle.std.proofs.Common.{[], ◌++◌, ◌<◌, ◌∷◌, ◌≡◌, Err, IfErr, List, Ok, Result, arith, get_or, inl, inr, length, refl, subst, suc, unwrap_or, zero, ℕ}
use Rattle.update_machine.specs.Exports.{Net, PolicyFile, Row, machine_plan_code}
use Rattle.partition.specs.Plan.{HostedPolicyPartition, partition_plan_of}
use Rattle.policy_rules.specs.Hosted as no_plan
use Rattle.policy_rules.specs.Exports.{NoPolicyPlan}
use Rattle.world.specs.Exports.{world_first_file_policy}
use Rattle.command_inputs.specs.Exports.{IsOneOfCommandInputNames, CommandStatusNamesOneOf, CommandInputStopNamesOneOf, CommandInputStopsCheck, input_first_plan, input_plan_from, input_plan_on, input_file_refused_whole, command_status_of}
use Rattle.command_inputs.specs.declared.status.Refusal.{Refusal}
use Rattle.command_inputs.specs.declared.status.Status.{Status}
use Rattle.command_inputs.specs.declared.status.Status.TheVariants as status
use Rattle.command_inputs.specs.declared.status.Stop.{Stop}
use Rattle.command_inputs.specs.declared.status.Stop.TheVariants as stop

-- ---- one name

-- a refusal of this is one of the file of this name
abbrev pub IsOwn : {X : Type 0} → List ℕ → Result X Refusal → Type 0
IsOwn name read = (refusal : Refusal) → read ≡ Err refusal → refusal.file ≡ name

own_refusal : {X : Type 0} (name : List ℕ) (given : Refusal) → given.file ≡ name
    → IsOwn {X = X} name (Err given)
own_refusal name given own = λ refusal is. let same : given ≡ refusal = cc is in
    subst (λ (r : Refusal). r.file ≡ name) same own

own_plan : (name : List ℕ) (net : Net) (rows : List Row) → IsOwn name (input_plan_on name net rows)
own_plan name net rows = by (partition_plan_of rows net) where
  by : (planned : Result (List HostedPolicyPartition) NoPolicyPlan) → IsOwn name (input_plan_from name planned)
  by (Ok hosted) = λ refusal is. absurd (cc is)
  by (Err (no_plan.NoRoom partition)) = own_refusal name
      (record { file = name; code = machine_plan_code (no_plan.NoRoom partition); row = partition }) refl
  by (Err why) = own_refusal name (input_file_refused_whole name (machine_plan_code why)) refl

-- a check of what the file of this name says
by_check : {X : Type 0} (name : List ℕ) (read : Result X Refusal) (why : Stop) → IsOwn name read
    → CommandInputStopsCheck read why → CommandStatusNamesOneOf (name ∷ []) (command_status_of why)
by_check name read (stop.Refused refusal) own is =
    (inl (own refusal is.0), λ code. absurd (is.1 code))
by_check name read stop.ReadFault own is = tt
by_check name read stop.NoMemory own is = tt

plan_check : (name : List ℕ) (net : Net) (rows : List Row) (why : Stop)
    → CommandInputStopsCheck (input_plan_on name net rows) why → CommandStatusNamesOneOf (name ∷ []) (command_status_of why)
plan_check name net rows why is =
    by_check name (input_plan_on name net rows) why (own_plan name net rows) is

-- so it is where a plan is made, or there is none
pub plan_read : {V : Type 0} (name : List ℕ) (net : Net) (rows : List Row) (read : Result V Stop)
    → IfErr read (CommandInputStopsCheck (input_plan_on name net rows)) → CommandInputStopNamesOneOf (name ∷ []) read
plan_read name net rows (Ok value) is = tt
plan_read name net rows (Err why) is = plan_check name net rows why is

-- ---- several names

-- each of these names is one of those
abbrev pub AreAmong : (few all : List (List ℕ)) → Type 0
AreAmong few all = (file : List ℕ) → IsOneOfCommandInputNames few file → IsOneOfCommandInputNames all file

pub among_front : (few more : List (List ℕ)) (file : List ℕ) → IsOneOfCommandInputNames few file
    → IsOneOfCommandInputNames (few ++ more) file
among_front [] more file is = absurd is
among_front (name ∷ few) more file (inl is) = inl is
among_front (name ∷ few) more file (inr is) = inr (among_front few more file is)

among_back : (few more : List (List ℕ)) (file : List ℕ) → IsOneOfCommandInputNames more file
    → IsOneOfCommandInputNames (few ++ more) file
among_back [] more file is = is
among_back (name ∷ few) more file is = inr (among_back few more file is)

pub among_first : (name : List ℕ) (more : List (List ℕ)) (file : List ℕ)
    → IsOneOfCommandInputNames (name ∷ []) file → IsOneOfCommandInputNames (name ∷ more) file
among_first name more file (inl is) = inl is
among_first name more file (inr is) = absurd is

-- the name behind some, and those behind it
pub among_behind : (few : List (List ℕ)) (name : List ℕ) (more : List (List ℕ)) (file : List ℕ)
    → IsOneOfCommandInputNames (name ∷ []) file → IsOneOfCommandInputNames (few ++ name ∷ more) file
among_behind few name more file is =
    among_back few (name ∷ more) file (among_first name more file is)

pub among_last : (few : List (List ℕ)) (name : List ℕ) (more : List (List ℕ)) (file : List ℕ)
    → IsOneOfCommandInputNames more file → IsOneOfCommandInputNames (few ++ name ∷ more) file
among_last few name more file is = among_back few (name ∷ more) file (inr is)

-- a name at a place
pub among_there : (names : List (List ℕ)) (i : ℕ) (d : List ℕ) → i < length names
    → (file : List ℕ) → IsOneOfCommandInputNames (get_or names i d ∷ []) file → IsOneOfCommandInputNames names file
among_there [] i d within file is = absurd (omega (arith, within))
among_there (name ∷ names) zero d within file is = among_first name names file is
among_there (name ∷ names) (suc i) d within file is =
    inr (among_there names i d (omega (arith, within)) file is)

pub among : (few all : List (List ℕ)) (ended : Status) → AreAmong few all → CommandStatusNamesOneOf few ended
    → CommandStatusNamesOneOf all ended
among few all (status.Input file code row) wider is = (wider file is.0, is.1)
among few all _ wider is = tt

-- the plan of the first of these
pub first_check : (names : List (List ℕ)) (net : Net) (files : List PolicyFile) (why : Stop)
    → 0 < length names → CommandInputStopsCheck (input_first_plan names net files) why
    → CommandStatusNamesOneOf names (command_status_of why)
first_check names net files why some is = let name = get_or names 0 [] in
    among (name ∷ []) names (command_status_of why) (among_there names 0 [] some)
    (plan_check name net (unwrap_or (world_first_file_policy files) []) why is)
