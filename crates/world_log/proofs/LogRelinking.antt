-- What switches send about their links, one switch, one neighbour and one advert after another.
use Rattle.std.proofs.Common.{[], if◌then◌else◌, ◌&&◌, ◌++◌, ◌+◌, ◌<◌, ◌^◌, ◌||◌, ◌∙◌, ◌∷◌, ◌≡◌, ◌≤◌, Bool, List, None, Option, Some, ap, append-nil, arith, bit_and, bit_or, cond, false, filter, filter_map, flat_map, get_or, inl, inr, length, map, refl, suc, sym, true, zero, ℕ}
use Rattle.base.proofs.Exports.{and_le_l, cases_lt, common_steps, filter_map-append, filter_more, flat_map-append, has-and, has-or, has-zero, has_mask, has_only_other, has_only_same, map-append, mask_of_is, mask_of_lt, option_map_or, range_more, range_with_len, slice_get-get_or}
use Rattle.update_machine.specs.Exports.{Advert, Hello, Message, machine_advert_to}
use Rattle.ctrl_msg.specs.Exports.{message_to_controller}
use Rattle.failover.specs.Exports.{held_advert}
use Rattle.base.specs.Exports.{has, only_if, switches}
use Rattle.switch_core.specs.Exports.{SwitchValue, near_changed, switch_next_advert, serves}
use Rattle.world_log.specs.Exports.{log_advert_if_held, world_log_adverts_again, logged_adverts_relinked_at, logged_adverts_on_change, log_adverts_over, log_all_adverts_sent, log_held_adverts, log_links_change, logged_near_mask_where, log_switch_relinked, logged_switch_serves_at}

-- ---- adverts

-- what it sends about the origins below n
unfoldable pub held_below : SwitchValue → ℕ → ℕ → List Message
held_below switch other n =
    map (machine_advert_to other) (filter_map (held_advert switch.database) (range_with_len 0 n))

pub held_none : (switch : SwitchValue) (other : ℕ) → held_below switch other 0 ≡ []
unfolding held_below
held_none switch other = refl

held_one : (switch : SwitchValue) (other n : ℕ)
    → held_below switch other (n + 1) ≡ held_below switch other n
    ++ map (machine_advert_to other) (filter_map (held_advert switch.database) (n ∷ []))
unfolding held_below
held_one switch other n =
    ap (λ origins. map (machine_advert_to other) (filter_map (held_advert switch.database) origins))
    (range_more 0 n n (omega arith)) ∙ ap (map (machine_advert_to other))
    (filter_map-append (held_advert switch.database) (range_with_len 0 n) (n ∷ []))
    ∙ map-append (machine_advert_to other) (filter_map (held_advert switch.database) (range_with_len 0 n))
    (filter_map (held_advert switch.database) (n ∷ []))

pub held_step : (switch : SwitchValue) (other n : ℕ) → held_below switch other (n + 1)
    ≡ held_below switch other n ++ log_advert_if_held other (held_advert switch.database n)
held_step switch other n = cc (held_one switch other n, by_one (held_advert switch.database n) refl)
  where
    by_one : (o : Option Advert) → held_advert switch.database n ≡ o → map (machine_advert_to other)
        (filter_map (held_advert switch.database) (n ∷ [])) ≡ log_advert_if_held other o
    by_one None e = rw e refl
    by_one (Some advert) e = rw e refl

pub ruleset held_steps = (common_steps, held_none, held_step)

pub held_all : (switch : SwitchValue) (other : ℕ)
    → held_below switch other 64 ≡ map (machine_advert_to other) (log_held_adverts switch)
unfolding held_below switches
held_all switch other = refl

-- ---- neighbours

-- what the neighbours below n are told, where each is told this
unfoldable pub near_below : (ℕ → List Message) → ℕ → ℕ → List Message
near_below send_adverts near n = flat_map send_adverts (filter (has near) (range_with_len 0 n))

pub near_none : (send_adverts : ℕ → List Message) (near : ℕ) → near_below send_adverts near 0 ≡ []
unfolding near_below
near_none send_adverts near = refl

pub near_step : (send_adverts : ℕ → List Message) (near n : ℕ) → near_below send_adverts near
    (n + 1) ≡ near_below send_adverts near n ++ (if has near n then send_adverts n else [])
unfolding near_below
near_step send_adverts near n = ap (flat_map send_adverts) (filter_more (has near) n)
    ∙ flat_map-append send_adverts (filter (has near) (range_with_len 0 n))
    (cond (has near n) (n ∷ []) [])
    ∙ ap (λ more. near_below send_adverts near n ++ more) (by_test (has near n))
  where
    by_test : (b : Bool) → flat_map send_adverts (cond b (n ∷ []) [])
        ≡ (if b then send_adverts n else [])
    by_test true = append-nil (send_adverts n)
    by_test false = refl

pub ruleset near_steps = (common_steps, near_none, near_step)

-- what it sends the neighbours below n about its links
abbrev pub told_below : SwitchValue → Advert → ℕ → ℕ → ℕ → List Message
told_below switch own had near n =
    near_below (λ other. log_adverts_over switch own (has had other) other) near n

-- and what it sends them again
abbrev pub again_below : SwitchValue → ℕ → ℕ → List Message
again_below switch near n = near_below (λ other. map (machine_advert_to other) (log_held_adverts switch)) near n

pub again_all : (s count near : ℕ) (switch : SwitchValue) → switch.is_up ≡ true
    → message_to_controller (Hello s switch.boot) ∷ again_below switch near count
    ≡ world_log_adverts_again s count near switch
unfolding near_below
again_all s count near switch up = rw up refl

pub again_none : (s count near : ℕ) (switch : SwitchValue) → switch.is_up ≡ false
    → [] ≡ world_log_adverts_again s count near switch
again_none s count near switch down = rw down refl

pub told_all : (switch : SwitchValue) (count had near : ℕ) → log_links_change had near switch ≡ true
    → told_below (near_changed switch near) (switch_next_advert switch near) had near count
    ≡ logged_adverts_on_change count had near switch
unfolding near_below
told_all switch count had near is = rw is refl

pub told_nothing : (switch : SwitchValue) (count had near : ℕ)
    → log_links_change had near switch ≡ false
    → (log_switch_relinked had near switch ≡ switch) × (logged_adverts_on_change count had near switch ≡ [])
told_nothing switch count had near is = (rw is refl, rw is refl)

-- ---- switches

-- what the switches below n tell
unfoldable pub all_below : ℕ → List ℕ → List ℕ → List SwitchValue → ℕ → List Message
all_below count had near all n = flat_map (logged_adverts_relinked_at count had near all) (range_with_len 0 n)

pub all_none : (count : ℕ) (had near : List ℕ) (all : List SwitchValue)
    → all_below count had near all 0 ≡ []
unfolding all_below
all_none count had near all = refl

pub all_more : (count : ℕ) (had near : List ℕ) (all : List SwitchValue) (n : ℕ) (d : SwitchValue)
    → n < length all → all_below count had near all (n + 1) ≡ all_below count had near all n
    ++ logged_adverts_on_change count (get_or had n 0) (get_or near n 0) (get_or all n d)
unfolding all_below
all_more count had near all n d there =
    let send_adverts : ℕ → List Message = logged_adverts_relinked_at count had near all in
    ap (flat_map send_adverts) (range_more 0 n n (omega arith))
    ∙ flat_map-append send_adverts (range_with_len 0 n) (n ∷ [])
    ∙ ap (λ more. flat_map send_adverts (range_with_len 0 n) ++ more) (append-nil (send_adverts n)
    ∙ ap (λ o. elim o [
      | None ↦ []
      | Some switch ↦ logged_adverts_on_change count (get_or had n 0) (get_or near n 0) switch
    ]) (slice_get-get_or all n d there))

pub all_of_them : (had near : List ℕ) (all : List SwitchValue)
    → all_below (length all) had near all (length all) ≡ log_all_adverts_sent had near all
unfolding all_below log_all_adverts_sent
all_of_them had near all = refl

-- ---- masks

-- those that serve among the switches below n, and no others
pub record ServeBelow (mask n : ℕ) (all : List SwitchValue) : Type 0 where
  pub below : (k : ℕ) → k < n → has mask k ≡ logged_switch_serves_at all k
  pub past : (k : ℕ) → n ≤ k → has mask k ≡ false

pub serve_none : (all : List SwitchValue) → ServeBelow 0 0 all
serve_none all = record {
  below = λ k below. absurd (omega (arith, below));
  past = λ k past. has-zero k;
}

pub serve_one : (mask n : ℕ) (all : List SwitchValue) (switch : SwitchValue)
    → n < length all → switch ≡ get_or all n switch → ServeBelow mask n all
    → ServeBelow (bit_or mask (only_if (serves switch) n)) (n + 1) all
serve_one mask n all switch there is so = record {
  below = λ k below. has-or mask (only_if (serves switch) n) k ∙ elim (cases_lt k n) [
    | inl less ↦ ap (λ b. has mask k || b) (has_only_other (serves switch) n k
        (λ same. absurd (omega (arith, less, same)))) ∙ or_false (has mask k) ∙ so.below k less
    | inr more ↦ let same : k ≡ n = omega (arith, below, more) in
        ap (λ j. has mask j || has (only_if (serves switch) n) j) same
        ∙ ap (λ b. b || has (only_if (serves switch) n) n) (so.past n (omega arith))
        ∙ has_only_same (serves switch) n ∙ ap serves is
        ∙ sym (ap (λ o. option_map_or serves o false) (slice_get-get_or all n switch there))
        ∙ ap (logged_switch_serves_at all) (sym same)
  ];
  past = λ k past. has-or mask (only_if (serves switch) n) k
      ∙ ap (λ b. b || has (only_if (serves switch) n) k) (so.past k (omega (arith, past)))
      ∙ has_only_other (serves switch) n k (λ same. absurd (omega (arith, past, same)));
} where
  or_false : (b : Bool) → (b || false) ≡ b
  or_false true = refl
  or_false false = refl

-- a switch that isn't there serves not
none_there : (all : List SwitchValue) (k : ℕ) → length all ≤ k → logged_switch_serves_at all k ≡ false
none_there [] k past = refl
none_there (switch ∷ all) zero past = absurd (omega (arith, past))
none_there (switch ∷ all) (suc k) past = none_there all k (omega (arith, past))

pub serve_all : (mask : ℕ) (all : List SwitchValue) (n : ℕ) → length all ≤ n → n ≤ length all
    → ServeBelow mask n all → (k : ℕ) → has mask k ≡ logged_switch_serves_at all k
serve_all mask all n least most so k = elim (cases_lt k n) [
  | inl less ↦ so.below k less
  | inr more ↦ so.past k more ∙ sym (none_there all k (omega (arith, least, more)))
]

-- the usable links, as bits
pub usable_bits : (links serving s : ℕ) → links < 2 ^ 64
    → has serving s ≡ true → bit_and links serving ≡ logged_near_mask_where links (has serving s) (has serving)
usable_bits links serving s fits is = mask_of_is (bit_and links serving)
    (λ k. has links k && has serving s && has serving k) (omega (arith, and_le_l))
    (λ k below. has-and links serving k ∙ sym (and_true (has links k) (has serving k))
    ∙ sym (ap (λ b. has links k && b && has serving k) is))
  where
    and_true : (a b : Bool) → (a && true && b) ≡ (a && b)
    and_true true true = refl
    and_true true false = refl
    and_true false true = refl
    and_true false false = refl

pub usable_none : (links serving s : ℕ) → has serving s ≡ false
    → 0 ≡ logged_near_mask_where links (has serving s) (has serving)
usable_none links serving s is = mask_of_is 0 (λ k. has links k && has serving s && has serving k)
    (omega arith) (λ k below. has-zero k ∙ sym (ap (λ b. has links k && b && has serving k) is
    ∙ and_false (has links k) (has serving k)))
  where
    and_false : (a b : Bool) → (a && false && b) ≡ false
    and_false true true = refl
    and_false true false = refl
    and_false false true = refl
    and_false false false = refl

pub same_near : (links : ℕ) (own own2 : Bool) (test test2 : ℕ → Bool) → own ≡ own2
    → ((k : ℕ) → k < 64 → test k ≡ test2 k)
    → logged_near_mask_where links own test ≡ logged_near_mask_where links own2 test2
same_near links own own2 test test2 same others = mask_of_is (logged_near_mask_where links own test)
    (λ k. has links k && own2 && test2 k) (mask_of_lt (λ k. has links k && own && test k))
    (λ k below. has_mask (λ j. has links j && own && test j) k below
    ∙ ap (λ b. has links k && b && test k) same
    ∙ ap (λ b. has links k && own2 && b) (others k below))
