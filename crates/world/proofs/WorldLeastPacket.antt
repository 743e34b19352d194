-- The least packet on its way is the least that travels.
use Rattle.std.proofs.Common.{◌+◌, ◌∙◌, ◌≡◌, ◌≤◌, Bool, IsSome, List, None, Option, Some, ap, arith, cond, false, find, inl, inr, refl, subst, suc, sym, true, zero, ℕ}
use Rattle.base.proofs.Exports.{cases_lt, cond-true, false_from_ne_true, none-some, range_with_len, some_passes_of}
use Rattle.update_machine.specs.Exports.{Item, Setting, journal_next_packet, next_travelling, travels_in_journal}
use Rattle.packet_laws.specs.Exports.{packet_facts_of}
use Rattle.world.specs.Exports.{IsLeastInWorldFrom, WorldRefinesJournal, WorldValue, world_setting_at}
use Rattle.refinement.specs.Exports.{refined_flight_in, refined_flight_of}
use Rattle.travelling.specs.Travelling.{IsNextTravellerFrom, TravellingFlights, flight}
use Rattle.refinement.proofs.RefinedSteps.{reached_known}

differ : {X : Type 0} (b : Bool) → b ≡ true → b ≡ false → X
differ true holds fails = cc fails
differ false holds fails = cc holds

-- a test that fails at the first number has its least one behind it
onward : (test : ℕ → Bool) (from : ℕ) (next : Option ℕ) → test from ≡ false
    → IsLeastInWorldFrom test from next → IsLeastInWorldFrom test (from + 1) next
onward test from None fails least = λ i behind. least i (omega (arith, behind))
onward test from (Some i) fails least = (
  elim (cases_lt from i) [
    | inl below ↦ omega (arith, below)
    | inr above ↦ let same : from ≡ i = omega (arith, above, least.0) in
        differ (test i) least.1 (subst (λ k. test k ≡ false) same fails)
  ],
  least.1,
  λ k behind below. least.2 k (omega (arith, behind)) below,
)

-- one that holds there has it there
first : (test : ℕ → Bool) (from : ℕ) (next : Option ℕ) → test from ≡ true
    → IsLeastInWorldFrom test from next → next ≡ Some from
first test from None holds least = differ (test from) holds (least from (omega arith))
first test from (Some i) holds least = elim (cases_lt from i) [
  | inl below ↦ differ (test from) holds (least.2 from (omega arith) below)
  | inr above ↦ let same : i ≡ from = omega (arith, above, least.0) in
      ap Some same
]

by_first : (test : ℕ → Bool) (from : ℕ) (next rest : Option ℕ) (b : Bool) → test from ≡ b
    → IsLeastInWorldFrom test from next → (IsLeastInWorldFrom test (from + 1) next → next ≡ rest)
    → next ≡ cond b (Some from) rest
by_first test from next rest true holds least on = first test from next holds least
by_first test from next rest false fails least on = on (onward test from next fails least)

least_is_found : (test : ℕ → Bool) (from count : ℕ) (next : Option ℕ)
    → ((i : ℕ) → from + count ≤ i → test i ≡ false) → IsLeastInWorldFrom test from next
    → next ≡ find test (range_with_len from count)
least_is_found test from zero None over least = refl
least_is_found test from zero (Some i) over least =
    differ (test i) least.1 (over i (omega (arith, least.0)))
least_is_found test from (suc count) next over least =
    by_first test from next (find test (range_with_len (from + 1) count)) (test from) refl least
    (least_is_found test (from + 1) count next (λ i behind. over i (omega (arith, behind))))

-- the least packet on its way from a number on is the least that travels
least_from : (setting : Setting) (journal : List Item) (travelling : TravellingFlights)
    → ((i : ℕ) → flight travelling i ≡ refined_flight_in setting journal i) → (from : ℕ) (next : Option ℕ)
    → IsNextTravellerFrom travelling from next → IsLeastInWorldFrom (travels_in_journal journal) from next
unfolding refined_flight_in
least_from setting journal travelling tie from next least = by next least where
  none : (i : ℕ) → flight travelling i ≡ None → travels_in_journal journal i ≡ false
  none i is = false_from_ne_true (travels_in_journal journal i)
      (λ yes. none-some (refined_flight_of setting journal i) (sym is ∙ tie i
      ∙ cond-true (travels_in_journal journal i) (Some (refined_flight_of setting journal i)) None yes))

  by : (b : Option ℕ) → IsNextTravellerFrom travelling from b → IsLeastInWorldFrom (travels_in_journal journal) from b
  by None least = λ i behind. none i (least i behind)
  by (Some i) least = (
    least.0,
    some_passes_of (travels_in_journal journal i) (refined_flight_of setting journal i) (subst IsSome (tie i) least.1),
    λ k behind below. none k (least.2 k behind below),
  )

-- from the first number on it is the least of all
least_travels : (journal : List Item) (next : Option ℕ)
    → ((i : ℕ) → journal_next_packet journal ≤ i → travels_in_journal journal i ≡ false)
    → IsLeastInWorldFrom (travels_in_journal journal) 1 next → next ≡ next_travelling journal
unfolding journal_next_packet next_travelling
least_travels journal next over least =
    least_is_found (travels_in_journal journal) 1 _ next (λ i behind. over i (omega (arith, behind))) least

pub least_from_in : (world : WorldValue) (from : ℕ) (next : Option ℕ) → WorldRefinesJournal world
    → IsNextTravellerFrom world.travelling from next → IsLeastInWorldFrom (travels_in_journal world.journal) from next
least_from_in world from next refines least =
    least_from (world_setting_at world) world.journal world.travelling refines.packet from next least

pub least_travels_in : (world : WorldValue) (next : Option ℕ) → WorldRefinesJournal world
    → IsNextTravellerFrom world.travelling 1 next → next ≡ next_travelling world.journal
unfolding packet_facts_of
least_travels_in world next refines least = least_travels world.journal next (λ i new.
    ((reached_known (world_setting_at world) world.journal refines.sound refines.reached).kept.unknown i
    new).travels) (least_from_in world 1 next refines least)
