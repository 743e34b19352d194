use Rattle.std.proofs.Common.{[], ◌-◌, ◌∷◌, ◌≡◌, ◌≤◌, None, Some, get_or, length, ℕ}
use Rattle.world.specs.declared.files.Compiled.TheVariants.{Planned}
use Rattle.world.proofs.files.Files.new.Given as goal
use Rattle.switch_table.specs.Exports.{cache_all_touched}

-- what is pushed behind the first says nothing
abbrev pub invariant-loop-compiled : goal.invariant-loop-compiled
invariant-loop-compiled l = record {
  many : length l.compiled.items ≤ length l.files.items;
  same : (i : ℕ) → get_or l.compiled.items i None ≡ get_or (Some (Planned l.fn.plan cache_all_touched) ∷ []) i None;
}

abbrev pub decreases-loop-compiled : goal.decreases-loop-compiled
decreases-loop-compiled l = length l.files.items - length l.compiled.items
