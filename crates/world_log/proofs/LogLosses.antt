-- The packets that stand at a switch are lost, one after another.
use Rattle.std.proofs.Common.{[], if◌then◌else◌, ◌++◌, ◌+◌, ◌-◌, ◌<◌, ◌==◌, ◌∙◌, ◌∷◌, ◌≡◌, ◌≢◌, ◌≤◌, ◌⊎◌, Bool, List, None, Some, ap, append-nil, append_assoc, arith, cond, eq-eqb, eqb-true, false, filter, inl, inr, length, map, ne_eqb, refl, sym, true, ℕ}
use Rattle.base.proofs.Exports.{cases_lt, filter_more, map-append, range_with_len}
use Rattle.update_machine.specs.Exports.{Item}
use Rattle.journal.specs.declared.item.Item.TheVariants as item
use Rattle.travelling.specs.Travelling.{IsNextTravellerAt, TravellingFlights, TravellingWithOne, TravellingWithoutAt, travelling_numbers_at, travelling_stands_at, flight}
use Rattle.world_log.specs.Exports.{AreLoggedLossesBelow, IsLogPart, log_numbers_below}
use Rattle.travelling.proofs.TravellingSlots.{beyond, filter_on, none_between}

pub none_lost : (before : TravellingFlights) (switch : ℕ) (journal : List Item)
    → AreLoggedLossesBelow before switch 0 journal journal before
none_lost before switch journal = record {
  within = omega arith;
  written = sym (append-nil journal);
  lost = λ i below. absurd (omega (arith, below));
  later = λ i above. refl;
}

module _ (before : TravellingFlights) (switch from : ℕ) (journal now : List Item) (after : TravellingFlights)
    (lost : AreLoggedLossesBelow before switch from journal now after) where
  abbrev test : ℕ → Bool
  test i = travelling_stands_at switch (flight before i)

  stands_so : (i : ℕ) → from ≤ i → travelling_stands_at switch (flight after i) ≡ test i
  stands_so i above = ap (travelling_stands_at switch) (lost.later i above)

  -- a part of all is written
  pub lost_part : IsLogPart journal (map item.Lost (travelling_numbers_at before switch)) now
  unfolding travelling_numbers_at
  lost_part =
      let more : ℕ = length before - from in
      let rest : List ℕ = filter test (range_with_len from more) in
      let whole : ◌≡◌ {A = ℕ} (length before) (from + more) = omega (arith, lost.within) in record {
        written = map item.Lost (log_numbers_below before switch from);
        rest = map item.Lost rest;
        split = ap (λ k. map item.Lost (filter test (range_with_len 0 k))) whole
            ∙ ap (map item.Lost) (filter_on test from more)
            ∙ map-append item.Lost (log_numbers_below before switch from) rest;
        grown = lost.written;
      }

  module _ (packet : ℕ) (next : IsNextTravellerAt after switch from (Some packet)) where
    stood : test packet ≡ true
    stood = sym (stands_so packet next.0) ∙ next.1

    between : (i : ℕ) → from ≤ i → i < packet → test i ≡ false
    between i above below = sym (stands_so i above) ∙ next.2 i above below

    -- it is one of the table
    pub lost_within : packet < length before
    lost_within = by_place (cases_lt packet (length before)) where
      by_place : (packet < length before) ⊎ (length before ≤ packet) → packet < length before
      by_place (inl below) = below
      by_place (inr past) =
          absurd (let clash : true ≡ false = sym stood ∙ beyond before switch packet past in cc)

    below_next : log_numbers_below before switch (packet + 1)
        ≡ log_numbers_below before switch from ++ packet ∷ []
    below_next = let more : ℕ = packet - from in
        filter_more test packet
        ∙ ap (λ b. filter test (range_with_len 0 packet) ++ cond b (packet ∷ []) []) stood
        ∙ ap (λ numbers. numbers ++ packet ∷ [])
        (ap (λ k. filter test (range_with_len 0 k)) (omega (arith, next.0)) ∙ none_between test from
        more (λ i above below. between i above (omega (arith, below, next.0))))

    -- it is lost too
    pub lost_more : (behind : List Item) (gone : TravellingFlights)
        → behind ≡ now ++ item.Lost packet ∷ [] → TravellingWithOne after packet None gone
        → AreLoggedLossesBelow before switch (packet + 1) journal behind gone
    lost_more behind gone pushed without = record {
      within = omega (arith, lost_within);
      written = pushed ∙ ap (λ js. js ++ item.Lost packet ∷ []) lost.written
          ∙ append_assoc journal (map item.Lost (log_numbers_below before switch from))
          (item.Lost packet ∷ []) ∙ ap (λ items. journal ++ items) (sym (map-append item.Lost
          (log_numbers_below before switch from) (packet ∷ [])) ∙ ap (map item.Lost) (sym below_next));
      lost = λ i below. without i ∙ by_same i (i == packet) refl below;
      later = λ i above. without i ∙ ap (λ b. if b then None else flight after i)
          (ne_eqb i packet (λ e. absurd (omega arith))) ∙ lost.later i (omega (arith, next.0));
    } where
      by_place : (i : ℕ) → (i < from) ⊎ (from ≤ i) → i < packet
          → flight after i ≡ (if test i then None else flight before i)
      by_place i (inl low) below = lost.lost i low
      by_place i (inr high) below = cc (lost.later i high, between i high below)

      by_same : (i : ℕ) (b : Bool) → (i == packet) ≡ b → i < packet + 1
          → (if b then None else flight after i) ≡ (if test i then None else flight before i)
      by_same i true e below = sym (ap (λ c. if c then None else flight before i)
          (ap test (eqb-true i packet e) ∙ stood))
      by_same i false e below = by_place i (cases_lt i from) (omega (arith, below, other)) where
        other : i ≢ packet
        other same = absurd (let differs : (packet == packet) ≡ false =
            ap (λ k. k == packet) (sym same) ∙ e in let same_as : (packet == packet) ≡ true =
            eq-eqb packet packet refl in cc)

  module _ (next : IsNextTravellerAt after switch from None) where
    none_more : (i : ℕ) → from ≤ i → test i ≡ false
    none_more i above = sym (stands_so i above) ∙ next i above

    -- all of them are lost
    pub lost_written : now ≡ journal ++ map item.Lost (travelling_numbers_at before switch)
    unfolding travelling_numbers_at
    lost_written = let more : ℕ = length before - from in
        lost.written
        ∙ ap (λ numbers. journal ++ map item.Lost numbers)
        (sym (ap (λ k. filter test (range_with_len 0 k)) (omega (arith, lost.within))
        ∙ none_between test from more (λ i above below. none_more i above)))

    pub lost_all : TravellingWithoutAt before switch after
    lost_all = λ i. by_place i (cases_lt i from) where
      by_place : (i : ℕ) → (i < from) ⊎ (from ≤ i)
          → flight after i ≡ (if test i then None else flight before i)
      by_place i (inl low) = lost.lost i low
      by_place i (inr high) = cc (lost.later i high, none_more i high)
