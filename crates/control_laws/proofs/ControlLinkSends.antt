-- How many adverts are sent where the links of one switch change.
use Rattle.std.proofs.Common.{[], ◌&&◌, ◌*◌, ◌+◌, ◌<◌, ◌==◌, ◌||◌, ◌∙◌, ◌∷◌, ◌≡◌, ◌≢◌, ◌≤◌, ◌⊎◌, Bool, IsTrue, List, ap, arith, cond, eq-eqb, eqb-true, false, filter, flat_map, inl, inr, length, map, mul-add, mul-le-mul_right, ne_eqb, not, refl, suc, sum_by, sym, true, zero, ℕ, rules}
use Rattle.base.proofs.Exports.{cases_eq, length-filter_map, length-flat_map, length-map, length-range_with_len, length_filter_less, list_any, mask_of_lt, range_with_len, sum_by-cons, sum_by-le-sum_by, sum_each, sum_filter, sum_some}
use Rattle.net_file.specs.Exports.{IsNet, are_linked_in_net, net_link_joins, links_of}
use Rattle.update_machine.specs.Exports.{Item, LinkRow, Message, Setting, machine_advert_to, journal_usable_links_changed, journal_held_adverts, is_usable_in_journal, machine_messages_of, machine_messages_over_link, near, own_advert, machine_switches_of, machine_usable_links}
use Rattle.base.specs.Exports.{has, switches}
use Rattle.net_file.proofs.NetFilePortMasks.{in_mask_of, in_mask_past}
use Rattle.control_laws.proofs.ControlNetLinks.{linked_by_mask}

-- ---- sums over switches, and how many pairs of switches links join

-- 1 where the test holds
abbrev pub once : Bool → ℕ
once b = cond b 1 0

-- ---- sums

pub sum_plus : (f g : ℕ → ℕ) (xs : List ℕ) → sum_by (λ x. f x + g x) xs ≡ sum_by f xs + sum_by g xs
sum_plus f g [] = refl
sum_plus f g (x ∷ xs) =
    omega (arith, sum_by-cons, sum_by-cons f x xs, sum_by-cons g x xs, sum_plus f g xs)

pub sum_times : (c : ℕ) (f : ℕ → ℕ) (xs : List ℕ) → sum_by (λ x. c * f x) xs ≡ c * sum_by f xs
sum_times c f [] = omega arith
sum_times c f (x ∷ xs) = search (rules, sum_by-cons, mul-add, sum_times c f xs)

-- ---- one place

-- a number is met at most once
none_before : (k low n : ℕ) → k < low → sum_by (λ x. once (k == x)) (range_with_len low n) ≡ 0
none_before k low zero below = refl
none_before k low (suc n) below = omega (
  arith,
  sum_by-cons (λ x. once (k == x)) low (range_with_len (low + 1) n),
  (ap once (ne_eqb k low (λ e. omega (arith, e, below)))),
  none_before k (low + 1) n (omega (arith, below)),
)

pub met_once : (k low n : ℕ) → sum_by (λ x. once (k == x)) (range_with_len low n) ≤ 1
met_once k low zero = omega arith
met_once k low (suc n) =
    let split = sum_by-cons (λ x. once (k == x)) low (range_with_len (low + 1) n) in
    elim (cases_eq k low) [
      | inl same ↦ let here : once (k == low) ≡ 1 = ap once (eq-eqb k low same) in
          omega (arith, split, here, none_before k (low + 1) n (omega (arith, same)))
      | inr apart ↦ omega (arith, split, ap once (ne_eqb k low apart), met_once k (low + 1) n)
    ]

-- ---- pairs that are joined

either : (b c : Bool) → once (b || c) ≤ once b + once c
either b c = search rules

turned : (b c : Bool) → once (b && c) ≤ once (c && b)
turned b c = search rules

half : (d : Bool) (k low n : ℕ) → sum_by (λ x. once (d && k == x)) (range_with_len low n) ≤ once d
half true k low n = met_once k low n
half false k low n = omega (arith, sum_each (λ x. 0) 0 (range_with_len low n) (λ x. omega arith))

-- the link joins one switch to at most one other
ends_few : (b c : Bool) (one two low n : ℕ)
    → sum_by (λ x. once ((b && two == x) || (one == x && c))) (range_with_len low n)
    ≤ once b + once c
ends_few b c one two low n = let all : List ℕ = range_with_len low n in
    omega (
      arith,
      sum_by-le-sum_by (λ x. once ((b && two == x) || (one == x && c))) (λ x. once (b && two == x)
          + once (one == x && c)) all (λ x. either (b && two == x) (one == x && c)),
      sum_plus (λ x. once (b && two == x)) (λ x. once (one == x && c)) all,
      sum_by-le-sum_by (λ x. once (one == x && c)) (λ x. once (c && one == x)) all
          (λ x. turned (one == x) c),
      half b two low n,
      half c one low n,
    )

-- how many pairs the links join
abbrev pub pairs : List LinkRow → ℕ → ℕ → ℕ
pairs links n m = sum_by (λ s. sum_by (λ x. once (are_linked_in_net links s x)) (range_with_len 0 m))
    (range_with_len 0 n)

sum_more : (link : LinkRow) (links : List LinkRow) (s m : ℕ)
    → sum_by (λ x. once (are_linked_in_net (link ∷ links) s x)) (range_with_len 0 m) ≤ once (link.one == s)
    + once (link.two == s) + sum_by (λ x. once (are_linked_in_net links s x)) (range_with_len 0 m)
sum_more link links s m = omega (
  arith,
  sum_by-le-sum_by (λ x. once (are_linked_in_net (link ∷ links) s x))
      (λ x. once (net_link_joins s x link) + once (are_linked_in_net links s x)) (range_with_len 0 m)
      (λ x. either (net_link_joins s x link) (are_linked_in_net links s x)),
  sum_plus (λ x. once (net_link_joins s x link)) (λ x. once (are_linked_in_net links s x)) (range_with_len 0 m),
  ends_few (link.one == s) (link.two == s) link.one link.two 0 m,
)

-- at most two for each link
pub pairs_few : (links : List LinkRow) (n m : ℕ) → pairs links n m ≤ 2 * length links
pairs_few [] n m = omega (
  arith,
  sum_each (λ s. sum_by (λ x. once (are_linked_in_net [] s x)) (range_with_len 0 m)) 0 (range_with_len 0 n)
      (λ s. omega (arith, sum_each (λ x. 0) 0 (range_with_len 0 m) (λ x. omega arith))),
)
pairs_few (link ∷ links) n m =
    let joined : ℕ → ℕ = λ s. sum_by (λ x. once (are_linked_in_net links s x)) (range_with_len 0 m) in
    omega (
      arith,
      sum_by-le-sum_by (λ s. sum_by (λ x. once (are_linked_in_net (link ∷ links) s x))
          (range_with_len 0 m)) (λ s. once (link.one == s) + once (link.two == s) + joined s)
          (range_with_len 0 n) (λ s. sum_more link links s m),
      sum_plus (λ s. once (link.one == s) + once (link.two == s)) joined (range_with_len 0 n),
      sum_plus (λ s. once (link.one == s)) (λ s. once (link.two == s)) (range_with_len 0 n),
      met_once link.one 0 n,
      met_once link.two 0 n,
      pairs_few links n m,
    )

-- ---- link sends

-- ---- which links change

-- only links of one switch became usable, or ceased to be
pub record ChangesAt (before now : List Item) (t : ℕ) : Type 0 where
  pub others : (link : LinkRow) → link.one ≢ t → link.two ≢ t →
      is_usable_in_journal now link ≡ is_usable_in_journal before link

-- each end of a link that joins two switches is one of them
joined_ends : (x y : ℕ) (link : LinkRow) → net_link_joins x y link ≡ true
    → ((link.one ≡ x) ⊎ (link.one ≡ y)) × ((link.two ≡ x) ⊎ (link.two ≡ y))
joined_ends x y link joined = search (rules, eqb-true)

away : (x y z end : ℕ) → x ≢ z → y ≢ z → (end ≡ x) ⊎ (end ≡ y) → end ≢ z
away x y z end one two h6 = search rules

-- links of other switches join as before
linked_same : (before now : List Item) (t s k : ℕ) → ChangesAt before now t
    → s ≢ t → k ≢ t → (links : List LinkRow) → are_linked_in_net (filter (is_usable_in_journal now) links) s k
    ≡ are_linked_in_net (filter (is_usable_in_journal before) links) s k
linked_same before now t s k changes other far [] = refl
linked_same before now t s k changes other far (link ∷ links) =
    by_joins (net_link_joins s k link) refl (linked_same before now t s k changes other far links)
  where
    skipped : (b : Bool) (rest : List LinkRow) → net_link_joins s k link ≡ false
        → list_any (net_link_joins s k) (cond b (link ∷ rest) rest) ≡ list_any (net_link_joins s k) rest
    skipped true rest e = rw e refl
    skipped false rest e = refl

    by_joins : (joined : Bool) → net_link_joins s k link ≡ joined → list_any (net_link_joins s k)
        (filter (is_usable_in_journal now) links) ≡ list_any (net_link_joins s k) (filter (is_usable_in_journal before) links)
        → list_any (net_link_joins s k) (cond (is_usable_in_journal now link) (link ∷ filter (is_usable_in_journal now) links)
        (filter (is_usable_in_journal now) links)) ≡ list_any (net_link_joins s k) (cond (is_usable_in_journal before link)
        (link ∷ filter (is_usable_in_journal before) links) (filter (is_usable_in_journal before) links))
    by_joins false e rest = skipped (is_usable_in_journal now link) _ e ∙ rest ∙ sym (skipped _ _ e)
    by_joins true e rest = let ends = joined_ends s k link e in
        rw (changes.others link (away s k t link.one other far ends.0)
        (away s k t link.two other far ends.1)) (by_usable (is_usable_in_journal before link))
      where
        by_usable : (b : Bool) → list_any (net_link_joins s k) (cond b (link ∷ filter (is_usable_in_journal now) links)
            (filter (is_usable_in_journal now) links)) ≡ list_any (net_link_joins s k)
            (cond b (link ∷ filter (is_usable_in_journal before) links) (filter (is_usable_in_journal before) links))
        by_usable true = ap (λ c. net_link_joins s k link || c) rest
        by_usable false = rest

-- a mask of neighbours, bit by bit
same_bits : (one other : List LinkRow) (s k : ℕ) → are_linked_in_net one s k ≡ are_linked_in_net other s k
    → has (links_of one s) k ≡ has (links_of other s) k
unfolding has
same_bits one other s k same = search (rules, in_mask_of, in_mask_past, mask_of_lt)

same_neighbour : (setting : Setting) (before now : List Item) (t s k : ℕ) → ChangesAt before now t
    → s ≢ t → k ≢ t → has (near setting now s) k ≡ has (near setting before s) k
unfolding near
same_neighbour setting before now t s k changes other far = same_bits (machine_usable_links setting now) _ s
    k (linked_same before now t s k changes other far setting.net.links)

-- a link became usable
abbrev is_new : Setting → List Item → List Item → ℕ → ℕ → Bool
is_new setting before now s k = has (near setting now s) k && not (has (near setting before s) k)

new_at : (setting : Setting) (before now : List Item) (t s k : ℕ) → ChangesAt before now t
    → once (is_new setting before now s k) ≤ once (t == s) + once (t == k)
new_at setting before now t s k changes = search (rules, cases_eq, eq-eqb, same_neighbour)

-- ---- what a switch tells a neighbour

pub held_few : (setting : Setting) (journal : List Item) (s : ℕ)
    → length (journal_held_adverts setting journal s) ≤ 64
unfolding journal_held_adverts switches
held_few setting journal s = omega (arith, length-filter_map, length-range_with_len)

over_few : (setting : Setting) (before now : List Item) (s k : ℕ)
    → cond (has (near setting now s) k) (length (machine_messages_over_link setting before now s k)) 0
    ≤ once (has (near setting now s) k) + 63 * once (is_new setting before now s k)
over_few setting before now s k = by_links (has (near setting now s) k) _ where
  by_links : (b c : Bool) → cond b (length {A = Message} (elim c [
    | true ↦ machine_advert_to k (own_advert setting now s) ∷ []
    | false ↦ map (machine_advert_to k) (journal_held_adverts setting now s)
  ])) 0 ≤ once b + 63 * once (b && not c)
  by_links true true = omega arith
  by_links true false = omega (
    arith,
    held_few setting now s,
    length-map (journal_held_adverts setting now s) (machine_advert_to k),
  )
  by_links false c = omega arith

constant_few : (setting : Setting) → IsNet setting.net → (b : ℕ)
    → sum_by (λ k. b) (machine_switches_of setting) ≤ 64 * b
constant_few setting net b =
    let few : length (machine_switches_of setting) ≤ 64 =
    omega (arith, length-range_with_len 0 (length setting.net.switches), net.few_switches) in
    omega (
      arith,
      sum_each (λ k. b) b (machine_switches_of setting) (λ k. omega arith),
      mul-le-mul_right b few,
    )

-- what a switch sends: one advert over each usable link, and 63 more over each new one
by_few : (setting : Setting) (before now : List Item) (t s : ℕ) → IsNet setting.net
    → ChangesAt before now t → length (machine_messages_of setting before now s)
    ≤ sum_by (λ k. once (has (near setting now s) k)) (machine_switches_of setting)
    + 63 * (64 * once (t == s) + 1)
by_few setting before now t s net changes =
    let all : List ℕ = machine_switches_of setting in
    let fresh : ℕ → ℕ = λ k. once (is_new setting before now s k) in
    omega (
      arith,
      length-flat_map (machine_messages_over_link setting before now s) (filter (has (near setting now s)) all),
      sum_filter (λ k. length (machine_messages_over_link setting before now s k)) (has (near setting now s)) all,
      sum_by-le-sum_by (λ k. cond (has (near setting now s) k)
          (length (machine_messages_over_link setting before now s k)) 0)
          (λ k. once (has (near setting now s) k) + 63 * fresh k) all (λ k. over_few _ _ now s k),
      sum_plus (λ k. once (has (near setting now s) k)) (λ k. 63 * fresh k) all,
      sum_times 63 fresh all,
      sum_by-le-sum_by fresh (λ k. once (t == s) + once (t == k)) all
          (λ k. new_at setting before now t s k changes),
      sum_plus (λ k. once (t == s)) (λ k. once (t == k)) all,
      constant_few setting net (once (t == s)),
      met_once t 0 (length setting.net.switches),
    )

-- ---- what all tell

-- what the switches tell whose links changed
abbrev pub all_adverts_sent : Setting → List Item → List Item → List Message
all_adverts_sent setting before now = flat_map (machine_messages_of setting before now)
    (filter (journal_usable_links_changed setting before now) (machine_switches_of setting))

pairs_near : (setting : Setting) (now : List Item) → IsNet setting.net
    → sum_by (λ s. sum_by (λ k. once (has (near setting now s) k)) (machine_switches_of setting))
    (machine_switches_of setting) ≤ 512
unfolding near
pairs_near setting now net =
    let links : List LinkRow = machine_usable_links setting now in
    let all : List ℕ = machine_switches_of setting in
    omega (
      arith,
      sum_by-le-sum_by (λ s. sum_by (λ k. once (has (links_of links s) k)) all)
          (λ s. sum_by (λ k. once (are_linked_in_net links s k)) all) all (λ s. sum_by-le-sum_by
          (λ k. once (has (links_of links s) k)) (λ k. once (are_linked_in_net links s k)) all (λ k.
          implied (has (links_of links s) k) (are_linked_in_net links s k) (linked_by_mask links s k))),
      pairs_few links (length setting.net.switches) (length setting.net.switches),
      length_filter_less (is_usable_in_journal now) setting.net.links,
      net.few_links,
    )
  where
    implied : (b c : Bool) → (IsTrue b → IsTrue c) → once b ≤ once c
    implied true c is = rw (is refl) (omega arith)
    implied false c is = omega arith

pub changes_few : (setting : Setting) (before now : List Item) (t : ℕ) → IsNet setting.net
    → ChangesAt before now t → length (all_adverts_sent setting before now) ≤ 8576
changes_few setting before now t net changes =
    let all : List ℕ = machine_switches_of setting in
    let row : ℕ → ℕ = λ s. sum_by (λ k. once (has (near setting now s) k)) all in
    let more : ℕ → ℕ = λ s. 64 * once (t == s) + 1 in
    omega (
      arith,
      length-flat_map (machine_messages_of setting before now)
          (filter (journal_usable_links_changed setting before now) all),
      sum_some (λ s. length (machine_messages_of setting before now s)) (journal_usable_links_changed setting before now) all,
      sum_by-le-sum_by (λ s. length (machine_messages_of setting before now s))
          (λ s. row s + 63 * more s) all (λ s. by_few setting before now t s net changes),
      sum_plus row (λ s. 63 * more s) all,
      sum_times 63 more all,
      sum_plus (λ s. 64 * once (t == s)) (λ s. 1) all,
      sum_times 64 (λ s. once (t == s)) all,
      met_once t 0 (length setting.net.switches),
      constant_few setting net 1,
      pairs_near setting now net,
    )
