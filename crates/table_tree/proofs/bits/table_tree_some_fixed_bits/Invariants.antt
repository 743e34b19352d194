use Rattle.std.proofs.Common.{◌==◌, ◌≡◌, take, ℕ}
use Rattle.std.specs.Int.{bit_at}
use Rattle.table_tree.specs.Regions.{table_tree_some_fixes}
use Rattle.table_tree.proofs.bits.table_tree_some_fixed_bits.Given as goal

abbrev pub invariant-loop-candidate : goal.invariant-loop-candidate
invariant-loop-candidate l =
    (bit : ℕ) → (bit_at l.bits bit == 1) ≡ table_tree_some_fixes (take l.candidate-index l.candidates) bit
