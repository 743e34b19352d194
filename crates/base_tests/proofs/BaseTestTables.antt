-- The tables of the tests are sound: of three regions, one has each header.
use Rattle.std.proofs.Common.{[], ◌&&◌, ◌+◌, ◌<◌, ◌==◌, ◌∙◌, ◌∷◌, ◌≡◌, IsFalse, List, ap, arith, cond, count_by, false, lit<, refl, true, ℕ}
use Rattle.base.proofs.Exports.{bit_at, bit_at-lt, nat_tests}
use Rattle.five_tuple.specs.Exports.{header_number_of}
use Rattle.ternary.specs.Exports.{any_word, word_fix_of, holds, is_word_bit_fixed}
use Rattle.ternary.proofs.TernaryCallerLemmas.{any_holds, any_unfixed, fix_holds}
use Rattle.switch_table.specs.Exports.{AreSoundSwitchTables}
use Rattle.switch_table.specs.declared.tables.PartRow.{PartRow}
use Rattle.switch_table.specs.declared.tables.Tables.{Tables}

-- of three regions by two bits, one has each header
abbrev pub thirds : List PartRow
thirds = record { region = word_fix_of (word_fix_of any_word 71 false) 103 false; targets = 1 ∷ [] }
    ∷ record { region = word_fix_of (word_fix_of any_word 71 false) 103 true; targets = 1 ∷ [] }
    ∷ record { region = word_fix_of any_word 71 true; targets = 1 ∷ [] } ∷ []

one_third : (a b : ℕ) → a < 2 → b < 2
    → 0 + cond ((a == 0) && (b == 0)) 1 0 + cond ((a == 0) && (b == 1)) 1 0 + cond (a == 1) 1 0 ≡ 1
one_third a b p q = grind (arith, nat_tests)

free_high : IsFalse (is_word_bit_fixed (word_fix_of any_word 71 false) 103)
unfolding word_fix_of is_word_bit_fixed
free_high = refl

third_has : (number : ℕ) → count_by (λ (row : PartRow). holds row.region number) thirds ≡ 1
third_has number =
    let low = fix_holds any_word 71 false (any_unfixed 71) number
    ∙ ap (λ t. t && (bit_at number 71 == 0)) (any_holds number) in
    let high = fix_holds any_word 71 true (any_unfixed 71) number
    ∙ ap (λ t. t && (bit_at number 71 == 1)) (any_holds number) in
    let half = word_fix_of any_word 71 false in
    let lower = fix_holds half 103 false free_high number
    ∙ ap (λ t. t && (bit_at number 103 == 0)) low in
    let upper = fix_holds half 103 true free_high number
    ∙ ap (λ t. t && (bit_at number 103 == 1)) low in
    rw (lower, upper, high)
    (one_third (bit_at number 71) (bit_at number 103) (bit_at-lt number 71) (bit_at-lt number 103))

pub sound_thirds : (t : Tables) → t.parts ≡ thirds → t.auth ≡ [] → AreSoundSwitchTables t
sound_thirds t parts auth = record {
  one = λ header is. rw parts (third_has (header_number_of header));
  numbers = rw auth (λ k d within. absurd (omega arith));
  distinct = rw auth (λ i j d less within. absurd (omega arith));
  covers = rw auth (λ k d within. absurd (omega arith));
  few_rows = rw parts (lit< tt);
  few_rules = rw auth (λ k d within. absurd (omega arith));
}
