use Rattle.table_tree.proofs.rule_node.+grow.Given as goal

abbrev pub decreases-grow : goal.decreases-grow
decreases-grow l = l.cuts
