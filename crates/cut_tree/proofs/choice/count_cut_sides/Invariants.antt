use Rattle.std.proofs.Common.{◌-◌, ◌≤◌, false, length, true}
use Rattle.cut_tree.specs.Exports.{IsCutSideCounting}
use Rattle.cut_tree.proofs.choice.count_cut_sides.Given as goal

abbrev pub invariant-loop-place : goal.invariant-loop-place
invariant-loop-place l = record {
  within : l.place ≤ length l.rules;
  low : IsCutSideCounting l.low false l.rules l.region l.place;
  high : IsCutSideCounting l.high true l.rules l.region l.place;
}

abbrev pub decreases-loop-place : goal.decreases-loop-place
decreases-loop-place l = length l.rules - l.place
