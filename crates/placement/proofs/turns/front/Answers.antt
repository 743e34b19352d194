use Rattle.std.proofs.Common.{◌+◌, ◌<◌, ◌↔◌, ◌≡◌, ◌≤◌, ◌⊎◌, IsNone, List, MatchOption, Option, arith, length, length-take, take, ℕ, rules}
use Rattle.placement.proofs.turns.front.Goals as goal

-- a list of one to four
made : (result : Option (List ℕ)) (n : ℕ) (xs : List ℕ) (few : Type 0)
    → (IsNone result ↔ ((length (take (1 + n) xs) ≡ 0) ⊎ (4 < length (take (1 + n) xs)))) → n ≤ 3
    → 1 + n ≤ length xs → MatchOption result few (λ targets. 1 + n ≤ length xs)
made result n xs few none small enough = search (rules, length-take)

pub returns-clause-enough : goal.returns-clause-enough
returns-clause-enough c = made c.new.result c.args.backups c.args.switches.now _ c.new.ensures.none
    c.requires (omega arith)
