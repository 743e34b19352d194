use Rattle.cut_tree.proofs.CutNarrowingTwice.{narrow_twice, narrow_first}
use Rattle.cut_tree.proofs.laws.cut_tree_narrowing_laws.Goals as goal

pub returns : goal.returns
returns c = record { twice = narrow_twice; first = narrow_first }
