-- Down a tree of bits.
use Rattle.std.proofs.Common.{◌==◌, ◌≡◌, Bool, IsFalse, IsTrue, arith, eq-eqb, eqb-true, false, inl, inr, refl, true, ℕ, rules}
use Rattle.std.specs.Int.{bit_at, from_bool}
use Rattle.std.proofs.lemmas.Bool.{cases_Bool}
use Rattle.std.proofs.lemmas.Bool.Decides.{nat_tests}
use Rattle.std.proofs.lemmas.Nat.Bits.{bit_at-lt}
use Rattle.ternary.specs.Exports.{WordValue, word_fix_of, holds, is_word_bit_fixed}
use Rattle.ternary.proofs.TernaryCallerLemmas.{fix_holds}
use Rattle.table_tree.specs.LookupTrees.{LookupTree, Sides, table_tree_leaf_at, lookup_tree_of}
use Rattle.table_tree.specs.declared.bit_tree.BitTree.{BitTree, End, Cut'}

-- a header with this bit is in the half that has it
in_half : (region : WordValue) (bit number : ℕ) (one : Bool) → IsFalse (is_word_bit_fixed region bit)
    → IsTrue (holds region number) → bit_at number bit ≡ from_bool one
    → IsTrue (holds (word_fix_of region bit one) number)
in_half region bit number one free held is = search (rules, fix_holds, eq-eqb)

-- what is true of the side that has a header of the region is true of the cut
pub down : {A : Type 0} (P : A → Type 0) (region : WordValue) (bit number : ℕ)
    (low high : LookupTree A)
    → IsFalse (is_word_bit_fixed region bit) → IsTrue (holds region number)
    → (IsTrue (holds (word_fix_of region bit false) number) → P (table_tree_leaf_at number low))
    → (IsTrue (holds (word_fix_of region bit true) number) → P (table_tree_leaf_at number high))
    → P (table_tree_leaf_at number (Sides bit low high))
down P region bit number low high free held lower upper =
    elim (cases_Bool (bit_at number bit == 1)) [
      | inl set ↦ rw set (upper (in_half region bit number true free held (eqb-true _ _ set)))
      | inr unset ↦ let zero_bit : bit_at number bit ≡ 0 =
          grind (arith, nat_tests, unset, bit_at-lt number bit) in
          rw unset (lower (in_half region bit number false free held zero_bit))
    ]

-- the end to which the bits lead is where they lead in what is seen
pub seen_at : {L A : Type 0} (seen : L → A) (number : ℕ) (tree : BitTree L)
    → seen (table_tree_leaf_at number (lookup_tree_of (λ x. x) tree)) ≡ table_tree_leaf_at number (lookup_tree_of seen tree)
seen_at seen number (End end) = refl
seen_at seen number (Cut' bit p low q high) =
    search (rules, cases_Bool, seen_at seen number high, seen_at seen number low)
