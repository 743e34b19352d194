use Rattle.std.proofs.Common.{◌++◌, ◌≡◌, drop, filter}
use Rattle.table_tree.specs.Regions.{table_tree_candidate_meets}
use Rattle.table_tree.proofs.node.table_tree_candidates_meeting.Given as goal

abbrev pub invariant-loop-candidate : goal.invariant-loop-candidate
invariant-loop-candidate l = filter (table_tree_candidate_meets l.region) l.candidates
    ≡ l.kept.items ++ filter (table_tree_candidate_meets l.region) (drop l.candidate-index l.candidates)
