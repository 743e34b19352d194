-- Answers, computed: what a drain and a flush stand for, and how often switches were called.
use Rattle.std.proofs.Common.{[], ◌∷◌, ◌≡◌, List, refl}
use Rattle.update_machine.specs.Exports.{Answers, Drain, Event, Flush, Item, One, Step, MachineStepOfRow, journal_handled_count}
use Rattle.update_machine.proofs.JournalExampleNetworks.{at, left_by, one, shielded}

-- a packet enters and is drained; then the cache rule that it brought is delivered
abbrev entering : List MachineStepOfRow
entering = at 1 (Step.Packet 0 one) ∷ []

abbrev draining : List MachineStepOfRow
draining = at 2 (Step.Hop 1) ∷ at 2 (Step.Hop 1) ∷ []

abbrev flushing : List MachineStepOfRow
flushing = at 3 (Step.Deliver 1) ∷ []

abbrev taken : List MachineStepOfRow
taken = at 1 (Step.Packet 0 one) ∷ at 2 (Step.Hop 1) ∷ at 2 (Step.Hop 1) ∷ at 3
    (Step.Deliver 1) ∷ []

abbrev events : List Event
events = One (Step.Packet 0 one) ∷ Drain ∷ Flush ∷ []

abbrev journal : List Item
journal = left_by shielded taken

pub answers_rows : Answers shielded events journal
unfolding left_by
answers_rows = record {
  steps = taken;
  allowed = (
    entering,
    at 2 (Step.Hop 1) ∷ at 2 (Step.Hop 1) ∷ at 3 (Step.Deliver 1) ∷ [],
    record { split = refl },
    refl,
    (
      draining,
      flushing,
      record { split = refl },
      (refl, refl, (refl, refl, refl)),
      (flushing, [], record { split = refl }, (refl, refl, refl), refl),
    ),
  );
  written = refl;
}

-- a took the packet in and moved it on; b received it
pub handled_counts : (journal_handled_count journal 0 ≡ 2) × (journal_handled_count journal 1 ≡ 2)
unfolding left_by
handled_counts = (refl, refl)
