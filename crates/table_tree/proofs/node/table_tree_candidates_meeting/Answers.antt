use Rattle.std.proofs.Common.{◌∙◌, sym}
use Rattle.table_tree.specs.Regions.{table_tree_candidate_meets}
use Rattle.table_tree.proofs.TableTreeNodes.{kept_more}
use Rattle.table_tree.proofs.node.table_tree_candidates_meeting.Goals as goal

pub loop-candidate-preserved : goal.loop-candidate-preserved
loop-candidate-preserved c = rw c.in_ok-push.ensures.items
    (kept_more (table_tree_candidate_meets c.args.region.now) c.args.candidates.now c.loop-candidate.kept.items
    c.loop-candidate.candidate-index c.candidate-item.result c.loop-candidate-test.true
    c.candidate-item.is (sym c.meets.ensures ∙ c.if-not-meets.false) c.loop-candidate.invariant)
