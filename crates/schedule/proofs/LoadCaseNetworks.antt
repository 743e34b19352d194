-- The network of each load case is sound.
use Rattle.std.proofs.Common.{[], ◌&&◌, ◌++◌, ◌+◌, ◌<◌, ◌==◌, ◌^◌, ◌∙◌, ◌∷◌, ◌≡◌, ◌≢◌, ◌≤◌, All, AllPairs, Bool, IsFalse, IsTrue, List, ap, arith, bytes_eq, eq-eqb, eqb-true, false, is_some, leb-true, length, ltb-true, map, nat_le, nat_lt, ne_eqb, not, refl, slice_index, suc, sym, true, true≢false, zero, ℕ}
use Rattle.base.proofs.Exports.{All-cons, All-nil, AllPairs-cons, and_parts, bit_at, bit_at-pow_other, bytes_eq-Decides, list_all, map-range_with_len_more, not-true, range_with_len}
use Rattle.net_file.specs.Exports.{AreNetSwitchesApart, AreOtherNetLinks, IsNetLink, IsNet, IsNetSwitchRow, net_switch_has_port, is_net_name, net_link_joins, net_port_owner}
use Rattle.schedule.specs.Case.{load_case_links, load_case_net, load_case_room_of, load_case_switch_row}

-- ---- lists by a test that computes

module _ {A X : Type 0} (f : A → X) where
  all_by : (P : X → Type 0) (test : A → Bool) → ((x : A) → test x ≡ true → P (f x))
      → (xs : List A) → list_all test xs ≡ true → All P (map f xs)
  all_by P test sound [] e = All-nil P
  all_by P test sound (x ∷ xs) e = All-cons P (f x) (map f xs) (sound x (and_parts (test x) _ e).0)
      (all_by P test sound xs (and_parts (test x) _ e).1)

-- each passes with each later one
abbrev pairs_pass : {A : Type 0} → (A → A → Bool) → List A → Bool
pairs_pass test [] = true
pairs_pass test (x ∷ xs) = list_all (test x) xs && pairs_pass test xs

module _ {A X : Type 0} (f : A → X) where
  pairs_by : (R : X → X → Type 0) (test : A → A → Bool)
      → ((x y : A) → test x y ≡ true → R (f x) (f y)) → (xs : List A)
      → pairs_pass test xs ≡ true → AllPairs R (map f xs)
  pairs_by R test sound [] e = λ i j d below inside. absurd (omega arith)
  pairs_by R test sound (x ∷ xs) e = AllPairs-cons R (f x) (map f xs)
      (all_by f (R (f x)) (test x) (sound x) xs (and_parts (list_all (test x) xs) _ e).0)
      (pairs_by R test sound xs (and_parts (list_all (test x) xs) _ e).1)

-- ---- switches

all_sound : All IsNetSwitchRow load_case_net.switches
all_sound = all_by load_case_switch_row IsNetSwitchRow
    (λ i. is_net_name (load_case_switch_row i).name && (nat_lt (2 ^ i) (2 ^ 64) && nat_le (load_case_room_of i) 8192))
    (λ i e. let sizes = (and_parts (is_net_name (load_case_switch_row i).name) _ e).1 in
    record {
      name = (and_parts (is_net_name (load_case_switch_row i).name) _ e).0;
      ports = ltb-true _ _ (and_parts (nat_lt (2 ^ i) (2 ^ 64)) _ sizes).0;
      room = leb-true _ _ (and_parts (nat_lt (2 ^ i) (2 ^ 64)) _ sizes).1;
    })
    (range_with_len 0 8) refl

other_ports : (i j port : ℕ) → i ≢ j → IsTrue (net_switch_has_port port (load_case_switch_row i))
    → IsFalse (net_switch_has_port port (load_case_switch_row j))
other_ports i j port apart has = ne_eqb _ _ (λ e. one_of (port == i) refl e) where
  one_of : (b : Bool) → (port == i) ≡ b → bit_at (2 ^ j) port ≡ 1 → ⊥
  one_of true is e = let same : port ≡ i = eqb-true port i is in
      absurd (omega (arith, e, bit_at-pow_other j port (λ k. apart (sym same ∙ k))))
  one_of false is e =
      let none : bit_at (2 ^ i) port ≡ 0 =
      bit_at-pow_other i port (λ k. true≢false (sym (eq-eqb port i k) ∙ is)) in
      let some : bit_at (2 ^ i) port ≡ 1 = eqb-true _ _ has in absurd (omega (arith, some, none))

other_names : (i j : ℕ) → i ≢ j → IsFalse (bytes_eq (load_case_switch_row i).name (load_case_switch_row j).name)
other_names i j apart = go (bytes_eq (load_case_switch_row i).name (load_case_switch_row j).name) refl where
  go : (b : Bool) → bytes_eq (load_case_switch_row i).name (load_case_switch_row j).name ≡ b → IsFalse b
  go false e = refl
  go true e = let same = (bytes_eq-Decides (load_case_switch_row i).name (load_case_switch_row j).name).0 e in
      absurd (apart (omega (arith, ap (λ name. slice_index name 1) same)))

all_apart : AllPairs AreNetSwitchesApart load_case_net.switches
all_apart = pairs_by load_case_switch_row AreNetSwitchesApart (λ i j. not (i == j))
    (λ i j e. let apart : i ≢ j = λ same. true≢false (sym (eq-eqb i j same) ∙ not-true _ e) in
    record { names = other_names i j apart; ports = λ port. other_ports i j port apart })
    (range_with_len 0 8) refl

-- ---- links

all_links : All (IsNetLink 8) load_case_links
all_links = all_by (λ link. link) (IsNetLink 8)
    (λ link. nat_lt link.one 8 && (nat_lt link.two 8 && not (link.one == link.two)))
    (λ link e. record {
      one = ltb-true _ _ (and_parts (nat_lt link.one 8) _ e).0;
      two = ltb-true _ _ (and_parts (nat_lt link.two 8) _ (and_parts (nat_lt link.one 8) _ e).1).0;
      apart = λ same. true≢false (sym (eq-eqb link.one link.two same)
          ∙ not-true _ (and_parts (nat_lt link.two 8) _ (and_parts (nat_lt link.one 8) _ e).1).1);
    })
    load_case_links refl

other_links : AllPairs AreOtherNetLinks load_case_links
other_links = pairs_by (λ link. link) AreOtherNetLinks (λ a b. not (net_link_joins b.one b.two a))
    (λ a b e. not-true _ e) load_case_links refl

pub load_net_sound : IsNet load_case_net
load_net_sound =
    let size : length load_case_net.switches ≡ 8 = refl in
    let links : length load_case_links ≡ 10 = refl in record {
      some_switch = omega (arith, size);
      few_switches = omega (arith, size);
      switches = all_sound;
      apart = all_apart;
      few_links = omega (arith, links);
      links = all_links;
      others = other_links;
      some_rules = omega arith;
      leaf_rules = omega arith;
      backups = omega arith;
      cache = omega arith;
    }

-- ---- ports

in_range : (test : ℕ → Bool) (from count k : ℕ) → list_all test (range_with_len from count) ≡ true
    → from ≤ k → k < from + count → test k ≡ true
in_range test from zero k e low high = absurd (omega (arith, low, high))
in_range test from (suc count) k e low high =
    go (from == k) refl (in_range test (from + 1) count k (and_parts (test from) _ e).1)
  where
    go : (b : Bool) → (from == k) ≡ b → (from + 1 ≤ k → k < from + 1 + count → test k ≡ true)
        → test k ≡ true
    go true same later = ap test (sym (eqb-true from k same)) ∙ (and_parts (test from) _ e).0
    go false other later =
        let apart : from ≢ k = λ same. true≢false (sym (eq-eqb from k same) ∙ other) in
        later (omega (arith, low, apart)) (omega (arith, high))

pub port_owned : (port : ℕ) → port < 8 → IsTrue (is_some (net_port_owner load_case_net.switches port))
port_owned port below = in_range (λ k. is_some (net_port_owner load_case_net.switches k)) 0 8 port refl
    (omega arith) (omega (arith, below))

-- one more switch
pub switches_more : (i : ℕ) → map load_case_switch_row (range_with_len 0 (i + 1))
    ≡ map load_case_switch_row (range_with_len 0 i) ++ load_case_switch_row i ∷ []
switches_more i = map-range_with_len_more load_case_switch_row 0 i i (omega arith)
