-- The least of counts that stand in planes of bits.
use Rattle.std.proofs.Common.{[], ◌%◌, ◌*◌, ◌+◌, ◌-◌, ◌<◌, ◌==◌, ◌^◌, ◌↔◌, ◌∙◌, ◌∷◌, ◌≡◌, ◌≢◌, ◌⊎◌, List, Some, add-one, ap, arith, bit_and, bit_or, bit_xor, drop, eq-eqb, false, get_or, inl, inr, length, max, min, ne_eqb, refl, subst, suc, sym, true, zero, ℕ, rules}
use Rattle.base.proofs.Exports.{and_le_l, bit_at, bit_at-lt, bit_at-trailing_zeros, bit_at-zero, bit_at_and, bit_at_not, bit_at_ones, bit_at_ones_above, bit_at_or, bit_at_xor, both_ways, cases_Bool, cases_eq, cases_lt, cond-false, cond-true, trailing_zeros, w128, xor_lt}
use Rattle.ternary.specs.Exports.{WordValue, is_word_bit_fixed}
use Rattle.policy_rules.specs.declared.rules.Rule.{Rule}
use Rattle.cut_tree.specs.Exports.{CutCostsAtMost, HaveCutSidesCounted, IsCuttableBit, IsCutPlaneHeight, IsCutBitOfLeastCount, cut_cost_from, cut_cost_of, cut_count_at, cut_count_by, counted_cut_cost, least_cut_cost_below, side_of_cut}
use Rattle.cut_tree.specs.declared.choice.Cost.{Cost}
use Rattle.cut_tree.specs.declared.choice.CutSide.{CutSide}
use Rattle.cut_tree.proofs.CutLemmas.{least_is}

-- ---- the bits whose plane is 0

fewer_digit : (left plane bit : ℕ) → bit_at (bit_xor left (bit_and left plane)) bit
    + min (bit_at left bit) (bit_at plane bit) ≡ bit_at left bit
fewer_digit left plane bit = search (rules, bit_at_xor, bit_at_and, bit_at-lt)

-- a least count is least by its higher planes
least_above : (bits plane : ℕ) (rest count : ℕ → ℕ)
    → ((bit : ℕ) → count bit ≡ bit_at plane bit + 2 * rest bit) → (bit : ℕ)
    → IsCutBitOfLeastCount bits count bit → IsCutBitOfLeastCount bits rest bit
least_above bits plane rest count is bit best = search (rules, bit_at-lt)

-- counts with one plane more below: those that are least have a 0 there, if any has
pub least_fewer : (bits left plane : ℕ) (rest count : ℕ → ℕ)
    → ((bit : ℕ) → count bit ≡ bit_at plane bit + 2 * rest bit)
    → ((bit : ℕ) → (bit_at left bit ≡ 1) ↔ IsCutBitOfLeastCount bits rest bit)
    → left < 2 ^ 128 → bit_xor left (bit_and left plane) ≢ 0
    → (bit : ℕ) → (bit_at (bit_xor left (bit_and left plane)) bit ≡ 1) ↔ IsCutBitOfLeastCount bits count bit
least_fewer bits left plane rest count is known small some bit =
    let fewer = bit_xor left (bit_and left plane) in
    let k = trailing_zeros w128 fewer in
    let lowest = bit_at-trailing_zeros w128 fewer (omega (arith, some))
    (xor_lt 128 left (bit_and left plane) small (omega (arith, small, and_le_l left plane))) in
    let first = (known k).0 (omega (arith, lowest.1, fewer_digit left plane k, bit_at-lt left k)) in
    let clear : bit_at plane k ≡ 0 = omega
    (arith, lowest.1, fewer_digit left plane k, bit_at-lt left k, bit_at-lt plane k) in (
      λ set.
          let own = (known bit).0 (omega (arith, set, fewer_digit left plane bit, bit_at-lt left bit)) in
          let none : bit_at plane bit ≡ 0 = omega
          (arith, set, fewer_digit left plane bit, bit_at-lt left bit, bit_at-lt plane bit) in
          record {
            member = own.member;
            least = λ other m. omega (arith, is bit, is other, none, own.least other m);
          },
      λ best.
          let own : bit_at left bit ≡ 1 = (known bit).1 (least_above bits plane rest count is bit best) in
          let none : bit_at plane bit ≡ 0 = omega (
            arith,
            best.least k first.member,
            is bit,
            is k,
            clear,
            first.least bit best.member,
          ) in
          omega (arith, fewer_digit left plane bit, own, none),
    )

-- and else all of them have a 1 there
pub least_same : (bits left plane : ℕ) (rest count : ℕ → ℕ)
    → ((bit : ℕ) → count bit ≡ bit_at plane bit + 2 * rest bit)
    → ((bit : ℕ) → (bit_at left bit ≡ 1) ↔ IsCutBitOfLeastCount bits rest bit)
    → bit_xor left (bit_and left plane) ≡ 0
    → (bit : ℕ) → (bit_at left bit ≡ 1) ↔ IsCutBitOfLeastCount bits count bit
least_same bits left plane rest count is known none bit =
    let ones : (k : ℕ) → bit_at left k ≡ 1 → bit_at plane k ≡ 1 = λ k set.
    let zero_bit = ap (λ n. bit_at n k) none ∙ bit_at-zero k in
    omega (arith, zero_bit, set, fewer_digit left plane k, bit_at-lt plane k) in (
      λ set. let own = (known bit).0 set in record {
        member = own.member;
        least = λ other m. elim (cases_lt (rest bit) (rest other)) [
          | inl less ↦ omega (arith, is bit, is other, bit_at-lt plane bit)
          | inr more ↦ let also : bit_at left other ≡ 1 = (known other).1 (record {
            member = m;
            least = λ third n. omega (arith, more, own.least third n);
          }) in
              omega (arith, is bit, is other, ones other also, bit_at-lt plane bit, own.least other m)
        ];
      },
      λ best. (known bit).1 (least_above bits plane rest count is bit best),
    )

-- ---- counts of either of two

-- the lowest plane and the rest
planes_from : (planes : List ℕ) (place bit : ℕ) → place < length planes
    → cut_count_at (drop place planes) bit ≡ bit_at (get_or planes place 0) bit
    + 2 * cut_count_at (drop (suc place) planes) bit
planes_from [] place bit within = absurd (omega arith)
planes_from (plane ∷ planes) zero bit within = refl
planes_from (plane ∷ planes) (suc place) bit within = planes_from planes place bit (omega arith)

planes_at : (planes : List ℕ) (place next bit : ℕ) → next ≡ place + 1 → place < length planes
    → cut_count_at (drop place planes) bit ≡ bit_at (get_or planes place 0) bit
    + 2 * cut_count_at (drop next planes) bit
planes_at planes place next bit is within = rw (is, add-one) (planes_from planes place bit within)

chosen_digit : (a b which bit : ℕ) → bit_at which bit ≡ 1
    → bit_at (bit_xor a (bit_and (bit_xor a b) which)) bit ≡ bit_at b bit
chosen_digit a b which bit set = omega (
  arith,
  set,
  bit_at_xor a (bit_and (bit_xor a b) which) bit,
  bit_at_and (bit_xor a b) which bit,
  bit_at_xor a b bit,
  bit_at-lt a bit,
  bit_at-lt b bit,
)

left_digit : (a b which bit : ℕ) → bit_at which bit ≢ 1
    → bit_at (bit_xor a (bit_and (bit_xor a b) which)) bit ≡ bit_at a bit
left_digit a b which bit clear = search (rules, bit_at-lt, bit_at_xor, bit_at_and)

pub by_second : (first second : List ℕ) (which bit : ℕ) → bit_at which bit ≡ 1
    → cut_count_by first second which bit ≡ cut_count_at second bit
by_second first second which bit set = cond-true _ _ _ (eq-eqb _ _ set)

pub by_first : (first second : List ℕ) (which bit : ℕ) → bit_at which bit ≢ 1
    → cut_count_by first second which bit ≡ cut_count_at first bit
by_first first second which bit clear = cond-false _ _ _ (ne_eqb _ _ clear)

-- the lowest plane of such counts, and the rest
pub chosen_at : (first second : List ℕ) (place next which bit : ℕ) → next ≡ place + 1
    → place < length first → place < length second → cut_count_by (drop place first) (drop place second) which bit
    ≡ bit_at (bit_xor (get_or first place 0) (bit_and (bit_xor (get_or first place 0) (get_or second place 0)) which)) bit
    + 2 * cut_count_by (drop next first) (drop next second) which bit
chosen_at first second place next which bit is within also =
    search (rules, planes_at, cases_eq, eq-eqb, chosen_digit, ne_eqb, left_digit)

-- past the height there is no difference
pub least_start : (first second : List ℕ) (height which bits bit : ℕ) → IsCutPlaneHeight first height
    → IsCutPlaneHeight second height → (bit_at bits bit ≡ 1)
    ↔ IsCutBitOfLeastCount bits (cut_count_by (drop height first) (drop height second) which) bit
least_start first second height which bits bit p q = search (rules, cases_eq)

-- ---- which count is higher

-- a digit in which two counts differ, and one that the first is the higher
abbrev pub AreOrdered : ℕ → ℕ → ℕ → ℕ → Type 0
AreOrdered settled more first second = ((settled ≡ 0) × (more ≡ 0) × (first ≡ second))
    ⊎ ((settled ≡ 1) × (more ≡ 1) × (second < first))
    ⊎ ((settled ≡ 1) × (more ≡ 0) × (first < second))

-- nor an order
pub ordered_start : (first second : List ℕ) (height bit : ℕ) → IsCutPlaneHeight first height
    → IsCutPlaneHeight second height → AreOrdered (bit_at 0 bit) (bit_at 0 bit)
    (cut_count_at (drop height first) bit) (cut_count_at (drop height second) bit)
ordered_start first second height bit p q = search (rules, bit_at-zero)

-- one digit more below
ordered_next : (s m t n a b x y : ℕ) → a < 2 → b < 2 → t ≡ max s ((a + b) % 2)
    → n ≡ max m (min (((a + b) % 2 + min ((a + b) % 2) s) % 2) a) → AreOrdered s m x y
    → AreOrdered t n (a + 2 * x) (b + 2 * y)
ordered_next s m t n a b x y p q is_t is_n h12 = search rules

pub ordered_step : (first second : List ℕ) (place next settled more bit : ℕ) → next ≡ place + 1
    → place < length first → place < length second
    → AreOrdered (bit_at settled bit) (bit_at more bit) (cut_count_at (drop next first) bit)
    (cut_count_at (drop next second) bit)
    → AreOrdered
    (bit_at (bit_or settled (bit_xor (get_or first place 0) (get_or second place 0))) bit)
    (bit_at (bit_or more (bit_and (bit_xor (bit_xor (get_or first place 0) (get_or second place 0)) (bit_and (bit_xor (get_or first place 0) (get_or second place 0)) settled)) (get_or first place 0))) bit)
    (cut_count_at (drop place first) bit) (cut_count_at (drop place second) bit)
ordered_step first second place next settled more bit is within also so_far =
    let a = get_or first place 0 in
    let b = get_or second place 0 in
    let d = bit_xor a b in
    let f = bit_xor d (bit_and d settled) in
    let d_is = bit_at_xor a b bit in
    let f_is : bit_at f bit ≡ ((bit_at a bit + bit_at b bit) % 2 + min ((bit_at a bit + bit_at b bit) % 2) (bit_at settled bit)) % 2 =
    bit_at_xor d (bit_and d settled) bit
    ∙ ap (λ n. (bit_at d bit + n) % 2) (bit_at_and d settled bit)
    ∙ ap (λ n. (n + min n (bit_at settled bit)) % 2) d_is in
    let n_is = bit_at_or more (bit_and f a) bit
    ∙ ap (max (bit_at more bit)) (bit_at_and f a bit ∙ ap (λ n. min n (bit_at a bit)) f_is) in
    rw (planes_at first place next bit is within, planes_at second place next bit is also)
    (ordered_next _ _ _ _ _ _ _ _ (bit_at-lt a bit) (bit_at-lt b bit)
    (bit_at_or settled d bit ∙ ap (max (bit_at settled bit)) d_is) n_is so_far)

-- ---- the first bit whose cut costs least

larger_is : (low high : List ℕ) (above bit : ℕ)
    → (bit_at above bit ≡ 1) ↔ (cut_count_at low bit < cut_count_at high bit)
    → (cut_count_by low high above bit ≡ max (cut_count_at low bit) (cut_count_at high bit))
    × (cut_count_by low high above bit + cut_count_by high low above bit ≡ cut_count_at low bit + cut_count_at high bit)
larger_is low high above bit is = search (rules, cases_eq)

pub least_first : (low high : List ℕ) (above bits fewest least bit : ℕ)
    → ((k : ℕ) → (bit_at above k ≡ 1) ↔ (cut_count_at low k < cut_count_at high k))
    → ((k : ℕ) → (bit_at fewest k ≡ 1) ↔ IsCutBitOfLeastCount bits (cut_count_by low high above) k)
    → ((k : ℕ) → (bit_at least k ≡ 1) ↔ IsCutBitOfLeastCount fewest (cut_count_by high low above) k)
    → bit_at least bit ≡ 1 → ((j : ℕ) → j < bit → bit_at least j ≡ 0) → (other : ℕ)
    → bit_at bits other ≡ 1 → CutCostsAtMost (counted_cut_cost low high bit) (counted_cut_cost low high other)
least_first low high above bits fewest least bit is_above is_fewest is_least set before other m =
    let last = (is_least bit).0 set in
    let own = (is_fewest bit).0 last.member in
    let here = larger_is low high above bit (is_above bit) in
    let there = larger_is low high above other (is_above other) in
    let also : max (cut_count_at low bit) (cut_count_at high bit) ≡ max (cut_count_at low other) (cut_count_at high other)
    → bit_at fewest other ≡ 1 = λ e. (is_fewest other).1 (record {
      member = m;
      least = λ third n. omega (arith, e, here.0, there.0, own.least third n);
    }) in
    let last_also : max (cut_count_at low bit) (cut_count_at high bit) ≡ max (cut_count_at low other) (cut_count_at high other)
    → cut_count_at low bit + cut_count_at high bit ≡ cut_count_at low other + cut_count_at high other
    → bit_at least other ≡ 1 = λ e f. (is_least other).1 (record {
      member = also e;
      least = λ third n. omega (arith, e, f, here.0, here.1, there.0, there.1, last.least third n);
    }) in record {
      larger = omega (arith, here.0, there.0, own.least other m);
      sum = λ e. omega (arith, e, here.0, here.1, there.0, there.1, last.least other (also e));
      bit = λ e f. elim (cases_lt other bit) [
        | inl less ↦ absurd (omega (arith, before other less, last_also e f))
        | inr more ↦ more
      ];
    }

-- ---- the least cut

-- a bit of the complement of the mask, below 104
pub free_mask : (region : WordValue) (mask bit : ℕ) → mask ≡ region.mask → mask < 2 ^ 104
    → (bit_at (bit_and (2 ^ 104 - 1) (2 ^ 128 - 1 - mask)) bit ≡ 1) ↔ IsCuttableBit region bit
unfolding is_word_bit_fixed
free_mask region mask bit same small =
    let fixed = ap (λ m. bit_at m bit == 1) same in
    let both = bit_at_and (2 ^ 104 - 1) (2 ^ 128 - 1 - mask) bit in
    let apart : bit < 128 → bit_at (2 ^ 128 - 1 - mask) bit ≡ 1 - bit_at mask bit =
    λ below. bit_at_not w128 mask bit (omega arith) below in (
      λ set. elim (cases_lt bit 104) [
        | inl below ↦ let unset : bit_at mask bit ≡ 0 =
            omega (arith, both, apart (omega arith), bit_at_ones 104 bit below, set) in
            record { bound = below; free = sym fixed ∙ ap (λ n. n == 1) unset }
        | inr above ↦ absurd (omega (arith, set, both, bit_at_ones_above 104 bit above))
      ],
      λ free. elim (cases_eq (bit_at mask bit) 1) [
        | inl set ↦ absurd (both_ways _ free.free (sym fixed ∙ eq-eqb _ _ set))
        | inr unset ↦
            let zero_bit : bit_at mask bit ≡ 0 = omega (arith, bit_at-lt mask bit, unset) in
            omega (arith, both, apart (omega arith), bit_at_ones 104 bit free.bound, zero_bit)
      ],
    )

pub all_fixed : (region : WordValue) (free bit : ℕ) → bit < 104
    → ((bit_at free bit ≡ 1) ↔ IsCuttableBit region bit) → free ≡ 0 → is_word_bit_fixed region bit ≡ true
all_fixed region free bit within is none = search (rules, cases_Bool, bit_at-zero)

-- what is counted at the first bit that costs least
pub counted_cut : (low high : CutSide) (rules : List Rule) (region : WordValue) (free bit : ℕ)
    → HaveCutSidesCounted low false rules region → HaveCutSidesCounted high true rules region
    → ((k : ℕ) → (bit_at free k ≡ 1) ↔ IsCuttableBit region k) → bit_at free bit ≡ 1
    → ((other : ℕ) → bit_at free other ≡ 1 → CutCostsAtMost (counted_cut_cost low.counts.planes
    high.counts.planes bit) (counted_cut_cost low.counts.planes high.counts.planes other))
    → Some (counted_cut_cost low.counts.planes high.counts.planes bit) ≡ least_cut_cost_below 104 rules region
counted_cut low high rules region free bit lows highs frees set least =
    let counted : ℕ → Cost = counted_cut_cost low.counts.planes high.counts.planes in
    let same : (k : ℕ) → IsCuttableBit region k → counted k ≡ cut_cost_of rules region k = λ k f.
    ap (λ n. cut_cost_from k n (cut_count_at high.counts.planes k)) (lows k f)
    ∙ ap (cut_cost_from k (length (side_of_cut rules region k false))) (highs k f) in
    let is_free = (frees bit).0 set in
    ap Some (same bit is_free) ∙ sym (least_is rules region bit (record {
      cuts = is_free;
      least = λ other f.
          let Left : Cost → Type 0 = λ c. CutCostsAtMost c (cut_cost_of rules region other) in
          let Right : Cost → Type 0 = λ c. CutCostsAtMost (counted bit) c in
          subst Left (same bit is_free)
          (subst Right (same other f) (least other ((frees other).1 f)));
    }))
