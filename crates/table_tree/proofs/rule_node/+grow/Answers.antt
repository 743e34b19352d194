use Rattle.std.proofs.Common.{◌∙◌, ap, map, sym}
use Rattle.table_tree.specs.LookupTrees.{Leaf}
use Rattle.table_tree.proofs.TableTreeRules.{rank_of, within_cut, within_end}
use Rattle.table_tree.proofs.rule_node.+grow.Goals as goal

pub returns-in_default : goal.returns-in_default
returns-in_default t c = let node = c.args.node in
    ap Leaf (c.in_ok-places.ensures ∙ ap (map rank_of) c.deref.ensures.value)
    ∙ within_end c.args.cuts node.rules.items node.region
    (sym c.in_default.is ∙ c.table_tree_paying_cut.ensures.cut)

pub returns : goal.returns
returns t c = let node = c.args.node in
    rw (c.new.ensures, c.in_ok-new.ensures.ok, c.in_ok-new-2.ensures.ok)
    (within_cut c.args.cuts node.rules.items node.region c.in-Some.cost _ _ _ _ _ _
    c.in-Some.ensures.left c.in-Some.ensures.cut c.in_ok-low.ensures.rules
    c.in_ok-low.ensures.region c.in_ok-high.ensures.rules c.in_ok-high.ensures.region
    c.in_ok-low-2.ensures c.in_ok-high-2.ensures)
