-- The packets that left in a journal, and the board of meters while they do.
use Rattle.std.specs.Prelude.{[], ◌++◌, ◌∷◌, ◌≡◌, List, flat_map, ℕ}
use Rattle.update_machine.specs.Exports.{Item, Net}
use Rattle.journal.specs.declared.item.Item.TheVariants as item
use Rattle.meters.specs.Exports.{MeterBoardValue, MeterPortLeavings, SeenMeter, meter_board_after, kept_meters}
use Rattle.net_file.specs.Exports.{port_mask}

-- the leaving that an item records, with its port; none for other items
abbrev pub replay_left_by : Item → MeterPortLeavings
replay_left_by (item.Left packet port leaving) = (port, leaving) ∷ []
replay_left_by _ = []

-- the leavings of a journal, in order, each with its port
abbrev pub replay_left_in : List Item → MeterPortLeavings
replay_left_in items = flat_map replay_left_by items

-- if the old board is the one after some leavings, the new one is the one after these and more
abbrev pub ReplayMetersStayOn : MeterPortLeavings → MeterBoardValue SeenMeter → MeterBoardValue SeenMeter → Type 0
ReplayMetersStayOn more old new =
    (ports : ℕ) (left : MeterPortLeavings) (meters : List SeenMeter) → old ≡ meter_board_after ports left meters
    → new ≡ meter_board_after ports (left ++ more) meters

-- the new board is the one after what left between the one journal and the other, whatever the
-- meters of the old one recorded before
pub record ReplayMetersKeepUp (before after : List Item) (old new : MeterBoardValue SeenMeter) : Type 0 where
  pub more : MeterPortLeavings
  pub left : replay_left_in after ≡ replay_left_in before ++ more
  pub stay : ReplayMetersStayOn more old new

-- the new board keeps up with the longer journal, except for a part at its end
pub record ReplayMetersKeepUpWithin (before after : List Item) (old new : MeterBoardValue SeenMeter) : Type 0 where
  pub whole : List Item
  pub written : List Item
  pub longer : after ≡ whole ++ written
  pub kept : ReplayMetersKeepUp before whole old new

-- the meters that stay when the packets of this journal have left
abbrev pub replay_kept_meters : Net → List Item → List SeenMeter → List SeenMeter
replay_kept_meters net journal meters = kept_meters (port_mask net.switches) (replay_left_in journal) meters
