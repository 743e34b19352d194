use Rattle.cut_tree.specs.Exports.{free_cut_bit_count}
use Rattle.cut_tree.proofs.tree.+grow.Given as goal

abbrev pub decreases-grow : goal.decreases-grow
decreases-grow l = free_cut_bit_count l.node.region
