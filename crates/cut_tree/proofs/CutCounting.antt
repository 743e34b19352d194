-- Counters in planes of bits.
use Rattle.std.proofs.Common.{[], ◌*◌, ◌+◌, ◌<◌, ◌^◌, ◌∙◌, ◌∷◌, ◌≡◌, ◌≤◌, List, add-one, ap, arith, bit_and, bit_or, bit_xor, drop, get_or, length, length-drop, pow-suc, set, suc, zero, ℕ, rules}
use Rattle.base.proofs.Exports.{bit_at, bit_at-lt, bit_at-zero, bit_at_and, bit_at_or, bit_at_xor}
use Rattle.cut_tree.specs.Exports.{cut_count_at}

pub count_at-lt : (planes : List ℕ) (bit : ℕ) → cut_count_at planes bit < 2 ^ length planes
count_at-lt [] bit = omega arith
count_at-lt (plane ∷ planes) bit =
    omega (arith, count_at-lt planes bit, bit_at-lt plane bit, pow-suc 2 (length planes))

-- a plane that is written changes each count by what its weight gives
count_at-set : (planes : List ℕ) (place plane bit : ℕ) → place < length planes
    → cut_count_at (set planes place plane) bit + 2 ^ place * bit_at (get_or planes place 0) bit
    ≡ cut_count_at planes bit + 2 ^ place * bit_at plane bit
count_at-set [] place plane bit within = absurd (omega arith)
count_at-set (old ∷ planes) zero plane bit within = omega arith
count_at-set (old ∷ planes) (suc place) plane bit within = rw (pow-suc 2 place)
    (omega (arith, count_at-set planes place plane bit (omega arith)))

-- a plane and a carry are added bit by bit
full_adder : (plane carry bit : ℕ) → bit_at (bit_xor plane carry) bit + 2 * bit_at
    (bit_and plane carry) bit ≡ bit_at plane bit + bit_at carry bit
full_adder plane carry bit = search (rules, bit_at_xor, bit_at_and, bit_at-lt)

-- so are three sets
pub three_added : (a b c bit : ℕ) → bit_at (bit_xor (bit_xor a b) c) bit
    + 2 * bit_at (bit_or (bit_and a b) (bit_and (bit_xor a b) c)) bit
    ≡ bit_at a bit + bit_at b bit + bit_at c bit
three_added a b c bit = omega (
  arith,
  bit_at_xor (bit_xor a b) c bit,
  bit_at_xor a b bit,
  bit_at_or (bit_and a b) (bit_and (bit_xor a b) c) bit,
  bit_at_and a b bit,
  bit_at_and (bit_xor a b) c bit,
  bit_at-lt a bit,
  bit_at-lt b bit,
  bit_at-lt c bit,
)

-- four sets are added to the two lowest planes, and to what is carried on
pub four_added : (planes : List ℕ) (sum one ones two twos fours a b c d bit : ℕ) → 2 ≤ length planes
    → bit_at sum bit + 2 * bit_at one bit
    ≡ bit_at (get_or planes 0 0) bit + bit_at a bit + bit_at b bit
    → bit_at ones bit + 2 * bit_at two bit ≡ bit_at sum bit + bit_at c bit + bit_at d bit
    → bit_at twos bit + 2 * bit_at fours bit
    ≡ bit_at (get_or planes 1 0) bit + bit_at one bit + bit_at two bit
    → cut_count_at (set (set planes 0 ones) 1 twos) bit + 2 ^ 2 * bit_at fours bit
    ≡ cut_count_at planes bit + (bit_at a bit + bit_at b bit + bit_at c bit + bit_at d bit)
four_added [] sum one ones two twos fours a b c d bit within low high rest = absurd (omega arith)
four_added (p ∷ []) sum one ones two twos fours a b c d bit within low high rest = search rules
four_added (p ∷ q ∷ planes) sum one ones two twos fours a b c d bit within low high rest =
    omega (arith, low, high, rest)

-- what a carry adds into a plane, and carries on
pub carried_on : (planes : List ℕ) (place carry bit : ℕ) → place < length planes
    → cut_count_at (set planes place (bit_xor (get_or planes place 0) carry))
    bit + 2 ^ (place + 1) * bit_at (bit_and (get_or planes place 0) carry) bit ≡ cut_count_at planes
    bit + 2 ^ place * bit_at carry bit
carried_on planes place carry bit within =
    let plane = get_or planes place 0 in
    let weight = 2 ^ place in
    let sum = ap (λ n. weight * n) (full_adder plane carry bit) in
    let twice : 2 ^ (place + 1) ≡ weight * 2 = ap (λ n. 2 ^ n) (add-one place) ∙ pow-suc 2 place in
    rw twice (omega (arith, sum, count_at-set planes place (bit_xor plane carry) bit within))

-- the same where nothing is carried on
pub carried_out : (planes : List ℕ) (place carry bit : ℕ) → place < length planes
    → bit_and (get_or planes place 0) carry ≡ 0
    → cut_count_at (set planes place (bit_xor (get_or planes place 0) carry)) bit ≡ cut_count_at planes
    bit + 2 ^ place * bit_at carry bit
carried_out planes place carry bit within none =
    let nothing : 2 ^ (place + 1) * bit_at (bit_and (get_or planes place 0) carry) bit
    ≡ 2 ^ (place + 1) * 0 =
    ap (λ n. 2 ^ (place + 1) * n) (ap (λ n. bit_at n bit) none ∙ bit_at-zero bit) in
    omega (arith, nothing, carried_on planes place carry bit within)

-- the planes past the first count less than half as far
pub rest_below : (planes : List ℕ) (place bit : ℕ) → length planes ≡ 32 → 0 < place
    → cut_count_at (drop place planes) bit < 2 ^ 31
rest_below planes place bit whole past = search (rules, length-drop, count_at-lt)
