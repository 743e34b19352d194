-- What is kept of the files of policies.
use Rattle.std.proofs.Common.{[], ◌+◌, ◌<◌, ◌∙◌, ◌∷◌, ◌≡◌, ◌≤◌, IsSome, List, None, Ok, Option, Some, ap, arith, get_or, get_or-set_other, get_or-set_same, inl, inr, length, length-set, refl, set, slice_get, subst, suc, sym, zero, ℕ}
use Rattle.base.proofs.Exports.{cases_eq, cases_lt, get_or_past, get_or_read}
use Rattle.controller.specs.Exports.{ControllerPlanValue}
use Rattle.net_file.specs.Exports.{IsNet}
use Rattle.update_machine.specs.Exports.{Change, Net, PolicyFile, Row, Whole}
use Rattle.world.specs.Exports.{AreWorldFilesCompiled, IsWorldFileCompiled, WorldFilesKeepWhole, world_file_or_none, world_first_file_policy, world_file_made_at, world_file_made_from, world_file_own_policy}
use Rattle.world.specs.declared.files.Compiled.{Compiled}
use Rattle.world.specs.declared.files.Compiled.TheVariants.{Planned}
use Rattle.switch_table.specs.Exports.{cache_all_touched}

-- ---- files

-- a first file with a policy of its own has that
pub first_whole : (files : List PolicyFile) (rows : List Row) → world_first_file_policy files ≡ Some rows
    → slice_get files 0 ≡ Some (Whole rows)
first_whole [] rows is = absurd cc
first_whole (Whole own ∷ files) rows is = cc
first_whole (Change edits ∷ files) rows is = absurd cc

-- so there is one
pub first_there : (files : List PolicyFile) → IsSome (world_first_file_policy files) → 0 < length files
first_there [] is = absurd cc
first_there (file ∷ files) is = omega arith

-- and it is the file at place 0; the first part shows a tactic what to match
pub first_at : (files : List PolicyFile) (first : PolicyFile) → 0 < length files
    → first ≡ get_or files 0 first → (get_or files 0 first ≡ get_or files 0 first)
    × (world_first_file_policy files ≡ world_file_own_policy first)
first_at [] first there at = absurd (omega arith)
first_at (file ∷ files) first there at = (refl, ap world_file_own_policy (sym at))

-- a file that is there
pub file_there : (files : List PolicyFile) (place : ℕ) → place < length files
    → slice_get files place ≡ Some (world_file_or_none files place)
file_there [] place within = absurd (omega arith)
file_there (file ∷ files) zero within = refl
file_there (file ∷ files) (suc place) within = file_there files place (omega arith)

-- one with a policy of its own makes that of any other
pub own_made : (file : PolicyFile) (one other : List Row) → IsSome (world_file_own_policy file)
    → world_file_made_from file one ≡ world_file_made_from file other
own_made (Whole rows) one other own = refl
own_made (Change edits) one other own = absurd cc

-- and the first one its own
first_made : (files : List PolicyFile) (rows newest : List Row) → world_first_file_policy files ≡ Some rows
    → world_file_made_at files newest 0 ≡ (Ok rows, cache_all_touched)
first_made [] rows newest is = absurd cc
first_made (Whole own ∷ files) rows newest is =
    let same : own ≡ rows = cc is in ap (λ these. (Ok these, cache_all_touched)) same
first_made (Change edits ∷ files) rows newest is = absurd cc

-- ---- what became of them

-- what was made of a file was made of the file at its place
pub made_at_place : (net : Net) (files : List PolicyFile) (newest own : List Row)
    (place : ℕ) (file : PolicyFile) (compiled : Compiled) → place < length files
    → file ≡ get_or files place file → own ≡ newest → IsWorldFileCompiled net (world_file_made_from file own) compiled
    → IsWorldFileCompiled net (world_file_made_at files newest place) compiled
made_at_place net files newest own place file compiled within at same made = rw same at
    (rw (get_or_read files place file within at (Change [])) at made)

-- it is kept of that file
pub kept_with : (net : Net) (files : List PolicyFile) (newest : List Row)
    (kept : List (Option Compiled)) (place : ℕ) (compiled : Compiled)
    → AreWorldFilesCompiled net files newest kept → place < length files
    → IsWorldFileCompiled net (world_file_made_at files newest place) compiled
    → AreWorldFilesCompiled net files newest (set kept place (Some compiled))
kept_with net files newest kept place compiled are within made = record {
  sound = are.sound;
  many = length-set kept place (Some compiled) ∙ are.many;
  each = λ k other at. elim (cases_eq k place) [
    | inl same ↦ let inside : place < length kept = omega (arith, are.many) in
        let here : get_or (set kept place (Some compiled)) place None ≡ Some other =
        subst (λ j. get_or (set kept place (Some compiled)) j None ≡ Some other) same at in
        subst (λ j. IsWorldFileCompiled net (world_file_made_at files newest j) other) (sym same)
        (subst (IsWorldFileCompiled net (world_file_made_at files newest place))
        (cc (get_or-set_same kept place (Some compiled) None inside, here)) made)
    | inr apart ↦
        are.each k other (sym (get_or-set_other kept place k (Some compiled) None apart) ∙ at)
  ];
}

-- at first the plan of the first file is kept alone
pub kept_first : (net : Net) (files : List PolicyFile) (plan : ControllerPlanValue)
    (kept : List (Option Compiled)) → IsNet net → world_first_file_policy files ≡ Some plan.policy
    → IsWorldFileCompiled net (Ok plan.policy, cache_all_touched) (Planned plan cache_all_touched) → length kept ≡ length files
    → ((i : ℕ) → get_or kept i None ≡ get_or (Some (Planned plan cache_all_touched) ∷ []) i None)
    → AreWorldFilesCompiled net files plan.policy kept
kept_first net files plan kept sound first made many same = record {
  sound = sound;
  many = many;
  each = each;
} where
  each : (place : ℕ) (compiled : Compiled) → get_or kept place None ≡ Some compiled
      → IsWorldFileCompiled net (world_file_made_at files plan.policy place) compiled
  each zero compiled at = let is : Planned plan cache_all_touched ≡ compiled = cc (same 0, at) in
      subst (IsWorldFileCompiled net (world_file_made_at files plan.policy 0)) is
      (rw (first_made files plan.policy plan.policy first) made)
  each (suc place) compiled at = absurd (cc (same (suc place), at))

-- ---- what became of changes is forgotten

-- that of the first files, so many, is kept only where they have policies of their own
pub record AreForgotten (files : List PolicyFile) (many : ℕ) (old new : List (Option Compiled))
    : Type 0 where
  pub same : length new ≡ length old
  pub each : (place : ℕ) (compiled : Compiled) → get_or new place None ≡ Some compiled
      → (get_or old place None ≡ Some compiled)
      × (place < many → IsSome (world_file_own_policy (world_file_or_none files place)))

pub none_forgotten : (files : List PolicyFile) (old : List (Option Compiled))
    → AreForgotten files 0 old old
none_forgotten files old = record {
  same = refl;
  each = λ place compiled at. (at, λ below. absurd (omega (arith, below)));
}

pub whole_own : (file : PolicyFile) (rows : List Row) → file ≡ Whole rows → IsSome (world_file_own_policy file)
whole_own file rows is = rw is refl

-- the next one has a policy of its own
pub whole_kept : (files : List PolicyFile) (many : ℕ) (file : PolicyFile)
    (old new : List (Option Compiled)) → many < length files → file ≡ get_or files many file
    → IsSome (world_file_own_policy file) → AreForgotten files many old new
    → AreForgotten files (many + 1) old new
whole_kept files many file old new within at own so_far = record {
  same = so_far.same;
  each = λ place compiled kept. (
    (so_far.each place compiled kept).0,
    λ below. elim (cases_lt place many) [
      | inl less ↦ (so_far.each place compiled kept).1 less
      | inr more ↦ let same : many ≡ place = omega (arith, below, more) in
          subst (λ k. IsSome (world_file_own_policy (world_file_or_none files k))) same
          (rw (get_or_read files many file within at (Change [])) at own)
    ],
  );
}

-- or it is a change
pub change_forgotten : (files : List PolicyFile) (many : ℕ) (old new : List (Option Compiled))
    → many < length new → AreForgotten files many old new
    → AreForgotten files (many + 1) old (set new many None)
change_forgotten files many old new within so_far = record {
  same = length-set new many None ∙ so_far.same;
  each = λ place compiled kept. elim (cases_eq place many) [
    | inl same ↦ let here : get_or (set new many None) many None ≡ Some compiled =
        subst (λ k. get_or (set new many None) k None ≡ Some compiled) same kept in
        absurd (cc (get_or-set_same new many None None within, here))
    | inr apart ↦ let was = so_far.each place compiled
        (sym (get_or-set_other new many place None None apart) ∙ kept) in (
          was.0,
          λ below. was.1 (omega (arith, below, apart)),
        )
  ];
}

-- in the end only what became of files with policies of their own is kept
pub all_forgotten : (files : List PolicyFile) (many : ℕ) (old new : List (Option Compiled))
    → length old ≡ length files → length files ≤ many → AreForgotten files many old new
    → WorldFilesKeepWhole files old new
all_forgotten files many old new as_many all so_far = record {
  many = so_far.same;
  each = λ place compiled kept. elim (cases_lt place (length new)) [
    | inl less ↦ (
      (so_far.each place compiled kept).0,
      (so_far.each place compiled kept).1 (omega (arith, less, so_far.same, as_many, all)),
    )
    | inr past ↦ absurd (cc (get_or_past new place None past, kept))
  ];
}
