use Rattle.ternary.specs.Exports.{any_word}
use Rattle.cut_tree.proofs.CutTreeLemmas.{one_tree, tree_defined}
use Rattle.cut_tree.proofs.laws.tree_laws.Goals as goal

pub returns : goal.returns
returns c = record {
  exists = tree_defined;
  only = λ rules most a b. one_tree a b rules any_word most;
}
