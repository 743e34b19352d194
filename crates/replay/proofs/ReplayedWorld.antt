-- What a world that is as its journal says is.
use Rattle.std.proofs.Common.{◌≤◌, arith, ℕ}
use Rattle.steps.specs.Exports.{max_events}
use Rattle.update_machine.specs.Exports.{IsJournalReached, journal_next_packet}
use Rattle.world.specs.Exports.{WorldRefinesJournal, WorldValue, world_setting_at, world_state_at}
use Rattle.refinement.specs.Exports.{RefineJournal}

pub tie_of : (world : WorldValue) → WorldRefinesJournal world
    → RefineJournal (world_setting_at world) world.journal (world_state_at world)
tie_of world refines = refines

-- its journal is of steps of the network
pub reached_of : (world : WorldValue) → WorldRefinesJournal world
    → IsJournalReached (world_setting_at world) world.journal
reached_of world refines = (tie_of world refines).reached

-- few packets entered, so that another one may
pub few_packets : (world : WorldValue) (count : ℕ) → WorldRefinesJournal world → world.packets ≤ count
    → count ≤ max_events → journal_next_packet world.journal ≤ 4_000_000_000
few_packets world count refines few most = omega (arith, (tie_of world refines).counted, few, most)
