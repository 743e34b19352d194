use Rattle.std.proofs.Common.{◌+◌, ◌∷◌, ◌≤◌, arith, bit_and, ℕ, rules}
use Rattle.base.proofs.Exports.{bit_at, bit_at-lt}
use Rattle.cut_tree.proofs.CutSides.{met_step}
use Rattle.cut_tree.proofs.choice.CutSide.count_four.Goals as goal
use Rattle.cut_tree.proofs.choice.CutSide.count_four.Goals.{After-cut_halves_met-fourth}

-- what the four rules add to the count of a half
added_few : (c : After-cut_halves_met-fourth) (bit : ℕ) → let left = c.args.self.now.«open» in
    bit_at (bit_and left c.cut_halves_met-first.result) bit
    + bit_at (bit_and left c.cut_halves_met-second.result) bit
    + bit_at (bit_and left c.cut_halves_met-third.result) bit
    + bit_at (bit_and left c.cut_halves_met-fourth.result) bit ≤ 4
added_few c bit = search (rules, bit_at-lt)

pub add_four-requires : goal.add_four-requires
add_four-requires c = λ bit. omega (
  arith,
  c.requires.room bit,
  added_few (goal.at.add_four-requires c).After-cut_halves_met-fourth bit,
)

pub returns-clause-few : goal.returns-clause-few
returns-clause-few c = λ bit. omega (
  arith,
  c.add_four.ensures bit,
  added_few (goal.at.returns-clause-few c).After-cut_halves_met-fourth bit,
)

pub returns-clause-expected : goal.returns-clause-expected
returns-clause-expected c = λ region bit rules fit free. let left = c.args.self.now.«open» in
    let one = c.args.one in
    let b = c.args.b.now in
    let third = c.args.c.now in
    let d = c.args.d.now in
    rw (c.requires.one, c.add_four.ensures bit)
    (omega (
      arith,
      met_step region c.args.a.now (b ∷ third ∷ d ∷ rules) bit one left c.cut_halves_met-first.result fit.first free
          (c.cut_halves_met-first.ensures bit free.bound),
      met_step region b (third ∷ d ∷ rules) bit one left c.cut_halves_met-second.result fit.second free
          (c.cut_halves_met-second.ensures bit free.bound),
      met_step region third (d ∷ rules) bit one left c.cut_halves_met-third.result fit.third free
          (c.cut_halves_met-third.ensures bit free.bound),
      met_step region d rules bit one left c.cut_halves_met-fourth.result fit.fourth free
          (c.cut_halves_met-fourth.ensures bit free.bound),
    ))
