use Rattle.cut_tree.specs.Exports.{cut_tree_of}
use Rattle.cut_tree.proofs.CutTreeLemmas.{root_node}
use Rattle.cut_tree.proofs.tree.build.Goals as goal

pub invariant_of-root : goal.invariant_of-root
invariant_of-root c = rw (c.in_ok-from_slice.ensures.items, c.any.ensures.pair) (record {
  sound = root_node c.args.rules.now c.requires.words;
  few = c.requires.few_rules;
})

pub returns-clause-tree : goal.returns-clause-tree
unfolding cut_tree_of
returns-clause-tree c = rw (c.in_ok-from_slice.ensures.items, c.any.ensures.pair) at
    c.grow.ensures.tree

pub returns-clause-refused : goal.returns-clause-refused
unfolding cut_tree_of
returns-clause-refused c = rw (c.in_ok-from_slice.ensures.items, c.any.ensures.pair) at
    c.grow.ensures.refused
