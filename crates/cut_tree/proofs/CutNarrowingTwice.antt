-- Narrowing twice, and the first rule of a narrowed list.
use Rattle.std.proofs.Common.{[], ◌&&◌, ◌∙◌, ◌∷◌, ◌≡◌, IsTrue, List, Option, Some, ap, false, find, inl, inr, is_some, option_map, sym, true, ℕ, rules}
use Rattle.base.proofs.Exports.{and-true, both_ways, cases_Bool, false_from_ne_true}
use Rattle.ternary.specs.Exports.{WordValue, word_covers_of, holds, word_meet_of, meeting_word, word_meets}
use Rattle.ternary.proofs.TernaryCallerLemmas.{covers_held, covers_transitive, meet_is_some, meet_both, meet_disjoint, meet_greatest, meet_narrowed, meets_comm, meets_cover, met_joined, apart_none}
use Rattle.policy_rules.specs.Exports.{is_held_by_policy_rule}
use Rattle.policy_rules.specs.declared.rules.Rule.{Rule}
use Rattle.cut_tree.specs.Exports.{narrow, cut_narrowed_rule}
use Rattle.cut_tree.proofs.CutNarrowing.{narrow_none, narrow_apart, narrow_covered, narrow_more}

abbrev with_word : Rule → WordValue → Rule
with_word rule word = record rule { word = word }

some_word : (a b : WordValue) → Some a ≡ Some b → a ≡ b
some_word a b e = cc

-- ---- narrowing twice

-- the word that both share, met with what one of them covers
met_inner : (w outer inner : WordValue) → IsTrue (word_covers_of outer inner) → word_meets w outer ≡ true
    → word_meet_of (meeting_word w outer) inner ≡ word_meet_of w inner
met_inner w outer inner within meet =
    cc (met_joined w outer meet, meet_narrowed w outer inner within)

meets_inner : (w outer inner : WordValue) → IsTrue (word_covers_of outer inner) → word_meets w outer ≡ true
    → word_meets (meeting_word w outer) inner ≡ word_meets w inner
meets_inner w outer inner within meet = sym (meet_is_some (meeting_word w outer) inner)
    ∙ ap is_some (met_inner w outer inner within meet) ∙ meet_is_some w inner

covers_inner : (w outer inner : WordValue) → IsTrue (word_covers_of outer inner) → word_meets w outer ≡ true
    → word_covers_of (meeting_word w outer) inner ≡ word_covers_of w inner
covers_inner w outer inner within meet = cc
    (meet_greatest w outer _ inner (met_joined w outer meet), within, and-true (word_covers_of w inner))

joined_inner : (w outer inner : WordValue) → IsTrue (word_covers_of outer inner) → word_meets w outer ≡ true
    → word_meets w inner ≡ true → meeting_word (meeting_word w outer) inner ≡ meeting_word w inner
joined_inner w outer inner within meet met = some_word _ _
    (sym (met_joined (meeting_word w outer) inner (meets_inner w outer inner within meet ∙ met))
    ∙ met_inner w outer inner within meet ∙ met_joined w inner met)

-- what does not meet the outer region does not meet the inner one
apart_inner : (w outer inner : WordValue) → IsTrue (word_covers_of outer inner) → word_meets w outer ≡ false
    → word_meets w inner ≡ false
apart_inner w outer inner within apart =
    cc (meet_is_some w inner, meet_narrowed w outer inner within, apart_none w outer apart)

narrowed_inner : (rule : Rule) (outer inner : WordValue) → IsTrue (word_covers_of outer inner)
    → word_meets rule.word outer ≡ true → word_meets rule.word inner ≡ true
    → cut_narrowed_rule inner (cut_narrowed_rule outer rule) ≡ cut_narrowed_rule inner rule
unfolding cut_narrowed_rule
narrowed_inner rule outer inner within meet met = search (rules, joined_inner)

covered_meets : (a b : WordValue) → IsTrue (word_covers_of a b) → word_meets a b ≡ true
covered_meets a b covers = meets_comm a b ∙ meets_cover a b covers

-- one rule, where narrowing the rest is known
one_rule : (rule : Rule) (kept rest : List Rule) (outer inner : WordValue)
    → IsTrue (word_covers_of outer inner)
    → word_meets rule.word outer ≡ true → narrow kept inner ≡ narrow rest inner
    → narrow (cut_narrowed_rule outer rule ∷ kept) inner ≡ narrow (rule ∷ rest) inner
unfolding cut_narrowed_rule
one_rule rule kept rest outer inner within meet same =
    let word = meeting_word rule.word outer in
    let met = meets_inner rule.word outer inner within meet in
    let covered = covers_inner rule.word outer inner within meet in
    elim (cases_Bool (word_meets rule.word inner)) [
      | inr apart ↦ narrow_apart inner (with_word rule word) kept (met ∙ apart) ∙ same
          ∙ sym (narrow_apart inner rule rest apart)
      | inl table_tree_candidates_meeting ↦ let head = narrowed_inner rule outer inner within meet table_tree_candidates_meeting in
          elim (cases_Bool (word_covers_of rule.word inner)) [
            | inl covers ↦ narrow_covered inner (with_word rule word) kept (met ∙ table_tree_candidates_meeting)
                (covered ∙ covers) ∙ ap (λ r. r ∷ []) head
                ∙ sym (narrow_covered inner rule rest table_tree_candidates_meeting covers)
            | inr past ↦ narrow_more inner (with_word rule word) kept (met ∙ table_tree_candidates_meeting)
                (covered ∙ past) ∙ ap (λ r. r ∷ narrow kept inner) head
                ∙ ap (λ rs. cut_narrowed_rule inner rule ∷ rs) same
                ∙ sym (narrow_more inner rule rest table_tree_candidates_meeting past)
          ]
    ]

covered_alone : (rule : Rule) (rest : List Rule) (outer inner : WordValue)
    → IsTrue (word_covers_of outer inner) → word_meets rule.word outer ≡ true
    → IsTrue (word_covers_of rule.word inner) → narrow (cut_narrowed_rule outer rule ∷ []) inner ≡ narrow
    (rule ∷ rest) inner
unfolding cut_narrowed_rule
covered_alone rule rest outer inner within meet covers =
    search (rules, meets_inner, covered_meets, covers_inner, narrow_covered, narrowed_inner)

pub narrow_twice : (rules : List Rule) (outer inner : WordValue) → IsTrue (word_covers_of outer inner)
    → narrow (narrow rules outer) inner ≡ narrow rules inner
narrow_twice [] outer inner within = ap (λ rs. narrow rs inner) (narrow_none outer)
narrow_twice (rule ∷ rules) outer inner within = let rest = narrow_twice rules outer inner within in
    elim (cases_Bool (word_meets rule.word outer)) [
      | inr apart ↦ ap (λ rs. narrow rs inner) (narrow_apart outer rule rules apart) ∙ rest
          ∙ sym (narrow_apart inner rule rules (apart_inner rule.word outer inner within apart))
      | inl meet ↦ elim (cases_Bool (word_covers_of rule.word outer)) [
        | inl covers ↦ let inner_covers = covers_transitive rule.word outer inner covers within in
            ap (λ rs. narrow rs inner) (narrow_covered outer rule rules meet covers)
            ∙ covered_alone rule rules outer inner within meet inner_covers
        | inr past ↦ ap (λ rs. narrow rs inner) (narrow_more outer rule rules meet past)
            ∙ one_rule rule (narrow rules outer) rules outer inner within meet rest
      ]
    ]

-- ---- the first rule of a header

find_here : (header : ℕ) (rule : Rule) (rules : List Rule) → holds rule.word header ≡ true
    → find (is_held_by_policy_rule header) (rule ∷ rules) ≡ Some rule
find_here header rule rules hit = rw hit

find_more : (header : ℕ) (rule : Rule) (rules : List Rule) → holds rule.word header ≡ false
    → find (is_held_by_policy_rule header) (rule ∷ rules) ≡ find (is_held_by_policy_rule header) rules
find_more header rule rules miss = rw miss

-- a rule apart from the region holds none of its headers
not_held : (rule : Rule) (region : WordValue) (header : ℕ) → IsTrue (holds region header)
    → word_meets rule.word region ≡ false → holds rule.word header ≡ false
not_held rule region header here apart =
    sym (and-true (holds rule.word header)) ∙ sym (ap (λ t. holds rule.word header && t) here)
    ∙ meet_disjoint rule.word region header (apart_none rule.word region apart)

-- a narrowed rule holds the headers of the region that the rule holds
same_held : (rule : Rule) (region : WordValue) (header : ℕ) → IsTrue (holds region header)
    → word_meets rule.word region ≡ true → holds (cut_narrowed_rule region rule).word header
    ≡ holds rule.word header
unfolding cut_narrowed_rule
same_held rule region header here meet =
    meet_both rule.word region _ (met_joined rule.word region meet) header
    ∙ ap (λ t. holds rule.word header && t) here ∙ and-true (holds rule.word header)

pub narrow_first : (rules : List Rule) (region : WordValue) (header : ℕ)
    → IsTrue (holds region header) → find (is_held_by_policy_rule header) (narrow rules region) ≡ option_map
    (cut_narrowed_rule region) (find (is_held_by_policy_rule header) rules)
narrow_first [] region header here = ap (find (is_held_by_policy_rule header)) (narrow_none region)
narrow_first (rule ∷ rules) region header here =
    let rest = narrow_first rules region header here in
    let P : List Rule → Option Rule = find (is_held_by_policy_rule header) in
    elim (cases_Bool (word_meets rule.word region)) [
      | inr apart ↦ let lost = not_held rule region header here apart in
          ap P (narrow_apart region rule rules apart) ∙ rest
          ∙ sym (ap (option_map (cut_narrowed_rule region)) (find_more header rule rules lost))
      | inl meet ↦ let held = same_held rule region header here meet in
          elim (cases_Bool (holds rule.word header)) [
            | inl hit ↦ let found =
                sym (ap (option_map (cut_narrowed_rule region)) (find_here header rule rules hit)) in
                elim (cases_Bool (word_covers_of rule.word region)) [
                  | inl covers ↦ ap P (narrow_covered region rule rules meet covers)
                      ∙ find_here header (cut_narrowed_rule region rule) [] (held ∙ hit) ∙ found
                  | inr past ↦ ap P (narrow_more region rule rules meet past) ∙ find_here header
                      (cut_narrowed_rule region rule) (narrow rules region) (held ∙ hit) ∙ found
                ]
            | inr miss ↦ ap P (narrow_more region rule rules meet (false_from_ne_true _
                (λ covers. both_ways _ miss (covers_held rule.word region header covers here))))
                ∙ find_more header (cut_narrowed_rule region rule) (narrow rules region) (held ∙ miss)
                ∙ rest
                ∙ sym (ap (option_map (cut_narrowed_rule region)) (find_more header rule rules miss))
          ]
    ]
