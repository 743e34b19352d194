-- What it means that all that a world has is as its journal says.
use Rattle.std.specs.Prelude.{◌+◌, ◌<◌, ◌≡◌, Bool, List, filter, length, slice_index, slice_index_or, ℕ}
use Rattle.message_bag.specs.Exports.{Post}
use Rattle.controller.specs.Exports.{ControllerValue}
use Rattle.refinement.specs.Controller.{IsRefinedController}
use Rattle.refinement.specs.Bags.{IsRefinedBagOf}
use Rattle.refinement.specs.Flights.{refined_flight_in}
use Rattle.update_machine.specs.Exports.{IsJournalReached, IsMachineSetting, Item, LinkRow, Setting, is_link_up_in_journal, near as near_of, journal_next_packet}
use Rattle.net_file.specs.Exports.{links_of}
use Rattle.switch_core.specs.Exports.{SwitchValue}
use Rattle.refinement.specs.SwitchOf.{refined_switch_of}
use Rattle.travelling.specs.Travelling.{TravellingFlights, flight}

-- all that a world has: the switches, the packets on their way, how many entered or were closed,
-- the controller, and the messages that were sent. And, as masks, the switches to which each switch
-- has a link that is up, and those to which it has a usable one
pub record RefinedNetworkState : Type 0 where
  pub switches : List SwitchValue
  pub travelling : TravellingFlights
  pub packets : ℕ
  pub controller : ControllerValue
  pub posts : List Post
  pub links : List ℕ
  pub near : List ℕ

-- the links that are up
abbrev pub is_refined_up_link : List Item → LinkRow → Bool
is_refined_up_link journal link = is_link_up_in_journal journal link.one link.two

abbrev pub refined_up_links : Setting → List Item → List LinkRow
refined_up_links setting journal = filter (is_refined_up_link journal) setting.net.links

-- the masks are those of the links that are up
abbrev pub RefineUpLinks : Setting → List Item → List ℕ → Type 0
RefineUpLinks setting journal links = (s : ℕ) → s < 64
    → slice_index links s ≡ links_of (refined_up_links setting journal) s

-- the masks are those of the usable links
abbrev pub RefineUsableLinks : Setting → List Item → List ℕ → Type 0
RefineUsableLinks setting journal near = (s : ℕ) → s < 64 → slice_index near s ≡ near_of setting journal s

-- the journal is of steps of the network, and the switches, the packets on their way, the
-- controller, the messages and the links are as it says
pub record RefineJournal (setting : Setting) (journal : List Item) (state : RefinedNetworkState)
    : Type 0 where
  pub sound : IsMachineSetting setting
  pub reached : IsJournalReached setting journal
  pub many : length state.switches ≡ length setting.net.switches
  pub each : (s : ℕ) (d : SwitchValue) → s < length state.switches →
      slice_index_or state.switches s d ≡ refined_switch_of setting journal s
  pub packet : (i : ℕ) → flight state.travelling i ≡ refined_flight_in setting journal i
  pub counted : journal_next_packet journal ≡ state.packets + 1
  pub controller : IsRefinedController setting journal state.controller
  pub bag : IsRefinedBagOf journal state.posts
  pub up : RefineUpLinks setting journal state.links
  pub usable : RefineUsableLinks setting journal state.near
