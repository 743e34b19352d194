-- What the tests know of a world that isn't spent.
use Rattle.std.proofs.Common.{◌<◌, ◌≡◌, ◌≤◌, arith, false}
use Rattle.update_machine.specs.Exports.{journal_next_packet}
use Rattle.world.specs.Exports.{WorldRefinesJournal, WorldValue}

-- a step may be taken as long as there are few packets
pub few_packets : (world : WorldValue) → (world.is_spent ≡ false → WorldRefinesJournal world)
    → world.is_spent ≡ false → world.packets < 1000 → journal_next_packet world.journal ≤ 4000000000
few_packets world refines able few = omega (arith, (refines able).counted, few)
