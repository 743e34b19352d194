use Rattle.table_tree.proofs.TableTreeFinder.{finder_tree}
use Rattle.table_tree.proofs.finder.Finder.of.Goals as goal

pub returns-clause-tree : goal.returns-clause-tree
returns-clause-tree c = finder_tree c.header_laws.ensures c.holds_laws.ensures c.meet_laws.ensures
    c.args.tables.value c.args.trees.value c.requires.sound c.requires.trees

pub invariant_of-result : goal.invariant_of-result
invariant_of-result c = record {
  sound = c.requires.sound;
  tree = returns-clause-tree c;
  rules = c.requires.trees.rules;
}
