-- The decimal digits of short numbers, two at a time.
use Rattle.std.proofs.Common.{[], ◌%◌, ◌*◌, ◌++◌, ◌+◌, ◌/◌, ◌<◌, ◌∙◌, ◌∷◌, ◌≡◌, ◌≤◌, List, ap, append_assoc, arith, decimal, get_or, length, length-set, refl, set, sym, take, take_all, ℕ}
use Rattle.std.proofs.lemmas.Fmt.{decimal_digit, decimal_step}
use Rattle.std.proofs.lemmas.List.{take_more_set}
use Rattle.lines.specs.Pushes.{line_with}
use Rattle.lines.specs.declared.digits.TheConstants.{PAIRS}
use Rattle.lines.proofs.LinesCallerLemmas.{pair_at}

-- the digits of a number below 100, in the codes of their characters
abbrev pub pair : ℕ → List ℕ
pair n = (48 + n / 10) ∷ (48 + n % 10) ∷ []

-- the table has both digits of a number below 100
pub pairs_at : (n : ℕ) → n < 100
    → (get_or PAIRS (n * 2) 0 ≡ 48 + n / 10) × (get_or PAIRS (n * 2 + 1) 0 ≡ 48 + n % 10)
pairs_at n within = pair_at PAIRS (λ n. 48 + n / 10) (λ n. 48 + n % 10) 100 n tt within

-- two bytes set behind the first ones
pub take_two_set : (bytes : List ℕ) (len a b : ℕ) → len + 1 < length bytes
    → take (len + 2) (set (set bytes len a) (len + 1) b) ≡ take len bytes ++ a ∷ b ∷ []
take_two_set bytes len a b room =
    let two : len + 2 ≡ len + 1 + 1 = omega arith in
    let within : len + 1 < length (set bytes len a) = omega (arith, length-set bytes len a) in
    rw (
      two,
      take_more_set (set bytes len a) (len + 1) b within,
      take_more_set bytes len a (omega arith),
      append_assoc,
    ) refl

pub decimal_two : (n : ℕ) → 10 ≤ n → n < 100 → decimal n ≡ pair n
decimal_two n from within =
    rw (decimal_step n from (omega arith), decimal_digit (n / 10) (omega arith)) refl

-- the last two digits
pub decimal_pair : (n : ℕ) → 100 ≤ n → n < 1000000 → decimal n ≡ decimal (n / 100) ++ pair (n % 100)
decimal_pair n from within =
    let front : n / 10 / 10 ≡ n / 100 = omega arith in
    let ten : n / 10 % 10 ≡ n % 100 / 10 = omega arith in
    let one : n % 10 ≡ n % 100 % 10 = omega arith in
    rw (
      decimal_step n (omega arith) (omega arith),
      decimal_step (n / 10) (omega arith) (omega arith),
      append_assoc,
      front,
      ten,
      ← one,
    ) refl

-- the last four digits
pub decimal_pairs : (n : ℕ) → 10000 ≤ n → n < 1000000
    → decimal n ≡ decimal (n / 10000) ++ (pair (n / 100 % 100) ++ pair (n % 100))
decimal_pairs n from within = let front : n / 100 / 100 ≡ n / 10000 = omega arith in
    rw (
      decimal_pair n (omega arith) within,
      decimal_pair (n / 100) (omega arith) (omega arith),
      append_assoc,
      front,
    ) refl

-- a piece for which there was room is held whole
pub held_whole : (line piece now : List ℕ) → length now ≤ 2048 → now ≡ line ++ piece
    → now ≡ line_with line piece
unfolding line_with
held_whole line piece now within is = sym (take_all 2048 now within) ∙ ap (take 2048) is
