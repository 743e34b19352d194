-- Packets that are lost where they are.
use Rattle.std.specs.Prelude.{if◌then◌else◌, ◌++◌, ◌<◌, ◌≡◌, ◌≤◌, List, None, filter, length, map, ℕ}
use Rattle.base.specs.Exports.{range_with_len}
use Rattle.update_machine.specs.Exports.{Item}
use Rattle.journal.specs.declared.item.Item.TheVariants as item
use Rattle.travelling.specs.Travelling.{TravellingFlights, flight, travelling_stands_at}

-- the numbers below `bound` of the packets that are at the switch, ascending
abbrev pub log_numbers_below : TravellingFlights → ℕ → ℕ → List ℕ
log_numbers_below flights switch bound =
    filter (λ i. travelling_stands_at switch (flight flights i)) (range_with_len 0 bound)

-- of the packets below a number exactly those that were at the switch are lost: each loss is
-- written, and they no longer travel; all other packets are as before
pub record AreLoggedLossesBelow (before : TravellingFlights) (switch bound : ℕ) (journal now : List Item)
    (after : TravellingFlights) : Type 0 where
  pub within : bound ≤ length before
  pub written : now ≡ journal ++ map item.Lost (log_numbers_below before switch bound)
  pub lost : (i : ℕ) → i < bound → flight after i
      ≡ (if travelling_stands_at switch (flight before i) then None else flight before i)
  pub later : (i : ℕ) → bound ≤ i → flight after i ≡ flight before i
