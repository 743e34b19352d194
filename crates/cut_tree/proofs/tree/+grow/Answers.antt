use Rattle.std.proofs.Common.{◌+◌, ◌∙◌, ◌≡◌, ap, arith, false, sym, true, ℕ}
use Rattle.base.proofs.Exports.{err_from_is_err_and}
use Rattle.cut_tree.specs.Exports.{Node, cut_leaf_count, cut_tree_at}
use Rattle.cut_tree.proofs.CutTreeLemmas.{tree_leaf, cut_at, defined_at, half_smaller, exceeds_low, exceeds_high}
use Rattle.cut_tree.proofs.tree.+grow.Goals as goal
use Rattle.cut_tree.proofs.tree.+grow.Goals.{After-grow}

pub returns-then-len-cap-clause-tree : goal.returns-then-len-cap-clause-tree
returns-then-len-cap-clause-tree t c =
    rw (tree_leaf c.args.cap c.args.node.rules.items c.args.node.region (omega arith))
    c.leaf.ensures.tree

pub returns-then-len-cap-clause-refused : goal.returns-then-len-cap-clause-refused
returns-then-len-cap-clause-refused t c =
    rw (tree_leaf c.args.cap c.args.node.rules.items c.args.node.region (omega arith))
    c.leaf.ensures.refused

pub grow-requires : goal.grow-requires
grow-requires t c =
    let node = c.args.node in
    let smaller = half_smaller node.rules.items node.region c.least_cut-bit.result _ false
    c.least_cut-bit.ensures.least c.in_ok-low.ensures.region in
    (omega (arith, smaller), c.requires.cap)

-- the tree of the node, out of those of its halves
cut_is : (t : ℕ) (c : After-grow t) → cut_tree_at c.args.cap c.args.node.rules.items c.args.node.region
    ≡ Node c.least_cut-bit.result.bit
    (cut_tree_at c.args.cap c.in_ok-low.low.rules.items c.in_ok-low.low.region)
    (cut_tree_at c.args.cap c.in_ok-high.high.rules.items c.in_ok-high.high.region)
cut_is t c = cut_at c.args.cap c.args.node.rules.items c.args.node.region c.least_cut-bit.result _ _
    _ _ (omega arith) c.least_cut-bit.ensures.least c.in_ok-low.ensures.rules
    c.in_ok-low.ensures.region c.in_ok-high.ensures.rules c.in_ok-high.ensures.region

pub returns-in_err-low-2-clause-refused : goal.returns-in_err-low-2-clause-refused
returns-in_err-low-2-clause-refused t c =
    let is = cut_is t (goal.at.returns-in_err-low-2-clause-refused t c).After-grow in
    let p = err_from_is_err_and c.from_residual-in_err-low-2.result
    c.from_residual-in_err-low-2.ensures.1 in
    rw (p.1, p.2) (exceeds_low _ _ _ _ _ _ is c.in_err-low-2.ensures.refused)

pub grow-requires-2 : goal.grow-requires-2
grow-requires-2 t c =
    let node = c.args.node in
    let smaller = half_smaller node.rules.items node.region c.least_cut-bit.result _ true
    c.least_cut-bit.ensures.least c.in_ok-high.ensures.region in
    (omega (arith, smaller), c.requires.cap)

pub returns-in_err-high-2-clause-refused : goal.returns-in_err-high-2-clause-refused
returns-in_err-high-2-clause-refused t c =
    let is = cut_is t (goal.at.returns-in_err-high-2-clause-refused t c).After-grow in
    let p = err_from_is_err_and c.from_residual-in_err-high-2.result
    c.from_residual-in_err-high-2.ensures.1 in
    rw (p.1, p.2) (exceeds_high _ _ _ _ _ _ _ is
    (c.in_ok-low-2.ensures.room ∙ ap (λ s. c.grow.new.room + cut_leaf_count s)
    c.in_ok-low-2.ensures.tree) c.in_err-high-2.ensures.refused)

pub returns-clause-tree : goal.returns-clause-tree
returns-clause-tree t c = rw (
  c.in_ok-new.ensures.ok,
  c.in_ok-new-2.ensures.ok,
  c.in_ok-low-2.ensures.tree,
  c.in_ok-high-2.ensures.tree,
) (sym (cut_is t (goal.at.returns-clause-tree t c).After-grow))

pub returns-clause-defined : goal.returns-clause-defined
returns-clause-defined t c = let node = c.args.node in
    rw (c.in_ok-new.ensures.ok, c.in_ok-new-2.ensures.ok)
    (defined_at c.args.cap node.rules.items node.region c.least_cut-bit.result _ _ _ _ _ _
    (omega arith) c.least_cut-bit.ensures.least c.in_ok-low.ensures.rules
    c.in_ok-low.ensures.region c.in_ok-high.ensures.rules c.in_ok-high.ensures.region
    c.in_ok-low-2.ensures.defined c.in_ok-high-2.ensures.defined)
