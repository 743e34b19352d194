use Rattle.std.proofs.Common.{sym}
use Rattle.cut_tree.proofs.CutLemmas.{least_nowhere}
use Rattle.cut_tree.proofs.CutLeastCounts.{all_fixed, counted_cut}
use Rattle.cut_tree.proofs.choice.least_cut.Goals as goal

pub returns-then-free-eq0 : goal.returns-then-free-eq0
returns-then-free-eq0 c = sym (least_nowhere 104 c.args.rules.now c.args.region.now
    (λ bit within. all_fixed c.args.region.now c.free_bits_to_cut-free.result bit within
    (c.free_bits_to_cut-free.ensures bit) c.if-free-eq0.true))

pub returns : goal.returns
returns c =
    rw (c.new.ensures, c.count.ensures, c.count-2.ensures)
    (counted_cut c.count_cut_sides.result.0 c.count_cut_sides.result.1 c.args.rules.now c.args.region.now c.free_bits_to_cut-free.result
    c.cut_tree_cheapest_bit-bit.result c.count_cut_sides.ensures.low c.count_cut_sides.ensures.high
    c.free_bits_to_cut-free.ensures c.cut_tree_cheapest_bit-bit.ensures.member c.cut_tree_cheapest_bit-bit.ensures.least)
