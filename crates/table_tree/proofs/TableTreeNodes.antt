-- The regions at a node.
use Rattle.std.proofs.Common.{[], ◌++◌, ◌+◌, ◌<◌, ◌==◌, ◌^◌, ◌||◌, ◌∙◌, ◌∷◌, ◌≡◌, All, Bool, IsFalse, IsSome, IsTrue, List, None, Option, Some, ap, append_assoc, arith, cond, count_by, drop, eqb-true, false, filter, find, get_or, inl, inr, is_some, length, refl, sym, true, ℕ, rules}
use Rattle.std.specs.Int.{bit_at}
use Rattle.std.proofs.lemmas.Bool.{cases_eq, cases_lt, cases_Bool, both_ways, and_parts}
use Rattle.policy_rules.proofs.PolicyRulesCallerLemmas.{count_by-cons, count-filter-le, at_item, find_kept, found_from_count}
use Rattle.std.proofs.lemmas.List.Elements.{All-head, All-tail, All-filter, filter_passes}
use Rattle.std.proofs.lemmas.Nat.Bits.{bit_at_above}
use Rattle.five_tuple.specs.Exports.{HeaderLaws, IsHeader, header_numbered}
use Rattle.five_tuple.specs.declared.header.Header.{Header}
use Rattle.ternary.specs.Exports.{WordHoldsLaws, IsWord, TernaryMeetLaws, WordValue, any_word, word_fix_of, holds, is_word_bit_fixed, word_meet_of, word_meets}
use Rattle.ternary.proofs.TernaryCallerLemmas.{any_covers, fix_holds, fix_word, free_bits_shorter, meet_is_some, meet_both, meet_word, meets_cover, held_meets}
use Rattle.switch_table.specs.Exports.{switch_table_part_row_has}
use Rattle.switch_table.specs.declared.tables.PartRow.{PartRow}
use Rattle.cut_tree.specs.Exports.{IsCuttableBit, free_cut_bit_count}
use Rattle.table_tree.specs.Cutting.{LookupPassesNoFreeBit}
use Rattle.table_tree.specs.Regions.{AreTableTreeCandidates, AreTableTreeRegions, IsTableTreeCutBit, table_tree_candidate_holds, table_tree_candidate_meets, table_tree_side_candidates, table_tree_some_fixes, table_tree_candidates_from, table_tree_candidates_of}
use Rattle.table_tree.specs.declared.node.Candidate.{Candidate}

-- ---- lists

-- what an element counts
abbrev pub weight : Bool → ℕ
weight t = cond t 1 0

-- ---- the root

abbrev pub candidate_at : ℕ → PartRow → Candidate
candidate_at place row = record { place = place; region = row.region }

pub candidates_count : (place number : ℕ) (rows : List PartRow)
    → count_by (table_tree_candidate_holds number) (table_tree_candidates_from place rows)
    ≡ count_by (λ (row : PartRow). holds row.region number) rows
candidates_count place number [] = refl
candidates_count place number (row ∷ rows) = omega (
  arith,
  count_by-cons (table_tree_candidate_holds number) (candidate_at place row) (table_tree_candidates_from (place + 1) rows),
  count_by-cons (λ (r : PartRow). holds r.region number) row rows,
  candidates_count (place + 1) number rows,
)

pub any_meets : (candidates : List Candidate) → All
    (λ candidate. IsTrue (table_tree_candidate_meets any_word candidate)) candidates
any_meets candidates = search (rules, meets_cover, any_covers)

pub root_node : HeaderLaws → (rows : List PartRow)
    → ((header : Header) → IsHeader header → count_by (switch_table_part_row_has header) rows ≡ 1)
    → AreTableTreeRegions (table_tree_candidates_of rows) → AreTableTreeCandidates (table_tree_candidates_of rows) any_word
root_node laws rows one words =
    let count : (number : ℕ) → number < 2 ^ 104
    → count_by (table_tree_candidate_holds number) (table_tree_candidates_of rows) ≡ 1 =
    λ number small. candidates_count 0 number rows
    ∙ ap (λ n. count_by (λ (row : PartRow). holds row.region n) rows)
    (sym (laws.numbered number small)) ∙ one (header_numbered number) (laws.header number small) in
    record {
      whole = record { within = refl; bounded = omega arith };
      words = words;
      meet = any_meets (table_tree_candidates_of rows);
      one = λ number small. omega (arith, count number small);
      held = λ number small inside. found_from_count (table_tree_candidate_holds number) (table_tree_candidates_of rows)
          (omega (arith, count number small));
    }

-- ---- a half

-- a header of a half is one of the region, with the bit
pub half_holds : (region : WordValue) (bit number : ℕ) (one : Bool) → IsFalse
    (is_word_bit_fixed region bit) → IsTrue (holds (word_fix_of region bit one) number)
    → IsTrue (holds region number)
half_holds region bit number one free held = search (rules, fix_holds)

-- on a side, the one that has a header of the half is that of the node
pub side_finds : (candidates : List Candidate) (region : WordValue) (bit number : ℕ) (one : Bool)
    → IsTrue (holds (word_fix_of region bit one) number)
    → find (table_tree_candidate_holds number) (table_tree_side_candidates candidates region bit one)
    ≡ find (table_tree_candidate_holds number) candidates
side_finds candidates region bit number one held = search (rules, find_kept, held_meets)

pub half_node : (candidates : List Candidate) (region : WordValue) (bit : ℕ) (one : Bool)
    → AreTableTreeCandidates candidates region → IsCuttableBit region bit
    → AreTableTreeCandidates (table_tree_side_candidates candidates region bit one) (word_fix_of region bit one)
half_node candidates region bit one node free = let half = word_fix_of region bit one in record {
  whole = fix_word region bit one node.whole free.bound;
  words = All-filter (table_tree_candidate_meets half) (λ (candidate : Candidate). IsWord candidate.region)
      candidates node.words;
  meet = filter_passes (table_tree_candidate_meets half) candidates;
  one = λ number small. omega (arith, node.one, count-filter-le);
  held = λ number small inside. rw (side_finds candidates region bit number one inside)
      (node.held number small (half_holds region bit number one free.free inside));
}

-- ---- several regions

-- of two regions of which neither fixes a free bit of a region that they meet, each meets the other
pub unfixed_meet : TernaryMeetLaws → (region a b : WordValue) → IsWord a → word_meets a region ≡ true
    → word_meets b region ≡ true → ((bit : ℕ) → IsCuttableBit region bit → is_word_bit_fixed a bit ≡ false)
    → word_meets a b ≡ true
unfolding is_word_bit_fixed
unfixed_meet laws region a b word meet_a meet_b unfixed = (laws.bitwise a b).1 agrees where
  agrees : (k : ℕ) → bit_at a.mask k ≡ 1 → bit_at b.mask k ≡ 1 → bit_at a.value k ≡ bit_at b.value k
  agrees k in_a in_b = elim (cases_Bool (bit_at region.mask k == 1)) [
    | inl fixed ↦ let in_region : bit_at region.mask k ≡ 1 = eqb-true _ _ fixed in
        (laws.bitwise a region).0 meet_a k in_a in_region
        ∙ sym ((laws.bitwise b region).0 meet_b k in_b in_region)
    | inr free ↦ elim (cases_lt k 104) [
      | inl below ↦ absurd (both_ways _
          (unfixed k (record { bound = below; free = free })) (ap (λ n. n == 1) in_a))
      | inr above ↦ absurd (omega (arith, in_a, bit_at_above a.mask 104 k word.bounded above))
    ]
  ]

-- and then a header is in both
pub meeting_shares : WordHoldsLaws → (a b : WordValue) → IsWord a → IsWord b → word_meets a b ≡ true
    → (number : ℕ) × (number < 2 ^ 104) × IsTrue (holds a number) × IsTrue (holds b number)
meeting_shares laws a b a_word b_word meet = by_case (word_meet_of a b) refl where
  by_case : (m : Option WordValue) → word_meet_of a b ≡ m → (number : ℕ) × (number < 2 ^ 104)
      × IsTrue (holds a number) × IsTrue (holds b number)
  by_case None none = absurd (both_ways (word_meets a b) (sym (meet_is_some a b) ∙ ap is_some none) meet)
  by_case (Some m) is =
      let both = and_parts _ _ (sym (meet_both a b m is m.value) ∙ laws.value m) in
      (m.value, laws.bound m (meet_word a b m a_word b_word is), both.0, both.1)

-- so the regions of a node, where they are not one, fix a free bit
pub never_stuck : WordHoldsLaws → TernaryMeetLaws → (candidates : List Candidate) (region : WordValue)
    → AreTableTreeCandidates candidates region → LookupPassesNoFreeBit region (table_tree_some_fixes candidates)
    → length candidates ≡ 1
never_stuck holds_laws meet_laws [] region node none = absurd (both_ways false refl
    (node.held region.value (holds_laws.bound region node.whole) (holds_laws.value region)))
never_stuck holds_laws meet_laws (a ∷ []) region node none = refl
never_stuck holds_laws meet_laws (a ∷ b ∷ rest) region node none =
    let P : Candidate → Type 0 = λ s. IsWord s.region in
    let Q : Candidate → Type 0 = λ s. IsTrue (table_tree_candidate_meets region s) in
    let a_word = All-head P a (b ∷ rest) node.words in
    let b_word = All-head P b rest (All-tail P a (b ∷ rest) node.words) in
    let a_meets = All-head Q a (b ∷ rest) node.meet in
    let shared = meeting_shares holds_laws a.region b.region a_word b_word (unfixed_meet meet_laws
    region a.region b.region a_word a_meets (All-head Q b rest (All-tail Q a (b ∷ rest) node.meet))
    (λ bit free. first_unfixed (is_word_bit_fixed a.region bit) _ (none bit free))) in
    let number = shared.0 in
    absurd (omega (
      arith,
      node.one number shared.1,
      count_by-cons (table_tree_candidate_holds number) a (b ∷ rest),
      count_by-cons (table_tree_candidate_holds number) b rest,
      ap weight shared.2,
      ap weight shared.3,
    ))
  where
    first_unfixed : (a b : Bool) → (a || b) ≡ false → a ≡ false
    first_unfixed true b e = e
    first_unfixed false b e = refl

some_candidate : (candidates : List Candidate) (number : ℕ)
    → IsSome (find (table_tree_candidate_holds number) candidates) → 0 < length candidates
some_candidate [] number found = absurd (both_ways false refl found)
some_candidate (candidate ∷ candidates) number found = omega arith

-- where they are not one, they are several
pub several_candidates : WordHoldsLaws → (candidates : List Candidate) (region : WordValue)
    → AreTableTreeCandidates candidates region → (length candidates ≡ 1 → ⊥) → 1 < length candidates
several_candidates laws candidates region node not_one =
    let some = some_candidate candidates region.value
    (node.held region.value (laws.bound region node.whole) (laws.value region)) in
    elim (cases_eq (length candidates) 1) [
      | inl one ↦ absurd (not_one one)
      | inr other ↦ omega (arith, some, other)
    ]

pub cut_is_free : (candidates : List Candidate) (region : WordValue) (bit : ℕ) → IsTableTreeCutBit candidates
    region bit → IsCuttableBit region bit
cut_is_free candidates region bit h3 = search rules

-- fewer bits are free in a half
pub half_smaller : (region half : WordValue) (bit : ℕ) (one : Bool) → IsCuttableBit region bit
    → half ≡ word_fix_of region bit one → free_cut_bit_count half < free_cut_bit_count region
half_smaller region half bit one free same = rw same (omega (arith, free_bits_shorter))

-- ---- the loops

pub kept_more : (test : Candidate → Bool) (candidates kept : List Candidate)
    (index : ℕ) (candidate : Candidate) → index < length candidates
    → candidate ≡ get_or candidates index candidate
    → test candidate ≡ true → filter test candidates ≡ kept ++ filter test (drop index candidates)
    → filter test candidates ≡ (kept ++ candidate ∷ []) ++ filter test (drop (index + 1) candidates)
kept_more test candidates kept index candidate within is passes so_far =
    let rest = filter test (drop (index + 1) candidates) in
    so_far ∙ ap (λ (xs : List Candidate). kept ++ xs)
    (at_item (filter test) candidates index candidate within is
    ∙ ap (λ t. cond t (candidate ∷ rest) rest) passes)
    ∙ sym (append_assoc kept (candidate ∷ []) rest)

pub kept_same : (test : Candidate → Bool) (candidates kept : List Candidate)
    (index : ℕ) (candidate : Candidate) → index < length candidates
    → candidate ≡ get_or candidates index candidate
    → test candidate ≡ false → filter test candidates ≡ kept ++ filter test (drop index candidates)
    → filter test candidates ≡ kept ++ filter test (drop (index + 1) candidates)
kept_same test candidates kept index candidate within is fails so_far =
    let rest = filter test (drop (index + 1) candidates) in
    so_far ∙ ap (λ (xs : List Candidate). kept ++ xs)
    (at_item (filter test) candidates index candidate within is
    ∙ ap (λ t. cond t (candidate ∷ rest) rest) fails)
