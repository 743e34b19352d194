-- The step that an event asks for next: it may be played, and leaves the event fewer to ask for.
use Rattle.std.proofs.Common.{◌++◌, ◌+◌, ◌-◌, ◌<◌, ◌^◌, ◌≡◌, ◌≤◌, Bool, List, None, Option, Some, arith, false, length, option_map, refl, subst, sym, true, ℕ}
use Rattle.update_machine.specs.Exports.{Deliver, Drain, Event, Flush, MachineJournalHasRoom, Hop, IsJournalReached, IsMachineSetting, Item, One, Packet, Setting, Step, journal_next_packet, next_travelling, next_waiting, piece}
use Rattle.steps.specs.Exports.{IsEventOfSteps, IsStep, max_events}
use Rattle.packet_laws.specs.Exports.{packet_drain_left}
use Rattle.world.specs.Exports.{WorldRefinesJournal, WorldValue, world_packets_coming_in, world_setting_at}
use Rattle.replay.specs.Playing.{replay_event_brings_in, replay_next_step}
use Rattle.replay.proofs.ReplaySmallNumbers.{least_is_packet, least_is_small}
use Rattle.replay.proofs.ReplayedWorld.{reached_of, tie_of}

-- so many packets an event brought in, which began or has yet to
abbrev pub brought_so_far : Event → Bool → ℕ
brought_so_far (One step) false = 0
brought_so_far (One step) true = world_packets_coming_in step
brought_so_far Flush is_begun = 0
brought_so_far Drain is_begun = 0

-- how far the number of the message that is delivered next is from the greatest one
unfoldable pub flush_left : Option ℕ → ℕ
flush_left None = 0
flush_left (Some number) = 2 ^ 32 - number

-- what an event has yet to do
abbrev pub steps_left : Event → Bool → List Item → ℕ
steps_left (One step) false journal = 1
steps_left (One step) true journal = 0
steps_left Flush is_begun journal = flush_left (next_waiting journal)
steps_left Drain is_begun journal = packet_drain_left journal

-- ---- a step that is asked for

pub record Asked (setting : Setting) (row : ℕ) (event : Event) (is_begun : Bool)
    (journal : List Item) (step : Step) : Type 0 where
  pub may : IsEventOfSteps setting.net (length setting.files) event
      → journal_next_packet journal ≤ max_events + 1 → MachineJournalHasRoom journal
      → IsStep setting.net (length setting.files) step
  -- it is the first that may bring one in
  pub none : brought_so_far event is_begun ≡ 0
  pub brought : world_packets_coming_in step ≡ brought_so_far event true
  pub fewer : MachineJournalHasRoom journal → steps_left event true (journal ++ piece setting journal row step)
      < steps_left event is_begun journal

-- the step is of the number that was found
record Found (make : ℕ → Step) (found : Option ℕ) (step : Step) : Type 0 where
  number : ℕ
  is : found ≡ Some number
  made : make number ≡ step

found_by : (make : ℕ → Step) (found : Option ℕ) (step : Step)
    → option_map make found ≡ Some step → Found make found step
found_by make None step is = cc is
found_by make (Some number) step is = record { number = number; is = refl; made = cc is }

-- the laws by which drains and flushes end
abbrev pub DrainsEnd : Type 0
DrainsEnd = (setting : Setting) (journal : List Item) (row i : ℕ) → IsMachineSetting setting
    → IsJournalReached setting journal → next_travelling journal ≡ Some i
    → packet_drain_left (journal ++ piece setting journal row (Hop i)) < packet_drain_left journal

abbrev pub DeliveriesRise : Type 0
DeliveriesRise = (setting : Setting) (journal : List Item) (row n m : ℕ)
    → next_waiting journal ≡ Some n
    → next_waiting (journal ++ piece setting journal row (Deliver n)) ≡ Some m → n < m

-- the next number is greater, if there is one
nearer : (later : Option ℕ) (n : ℕ) → n < 2 ^ 32 → ((m : ℕ) → later ≡ Some m → n < m)
    → flush_left later < flush_left (Some n)
unfolding flush_left
nearer None n small rises = omega (arith, small)
nearer (Some m) n small rises = omega (arith, small, rises m refl)

pub asked : DrainsEnd → DeliveriesRise → (world : WorldValue) (row : ℕ) (event : Event)
    (is_begun : Bool) (step : Step) → WorldRefinesJournal world
    → replay_next_step event is_begun world.journal ≡ Some step
    → Asked (world_setting_at world) row event is_begun world.journal step
asked hops rise world row (One own) true step refines is = cc is
asked hops rise world row (One own) false step refines is = let same : own ≡ step = cc is in
    subst (Asked (world_setting_at world) row (One own) false world.journal) same
    (record { may = λ may few room. may; none = refl; brought = refl; fewer = λ room. omega arith })
asked hops rise world row Flush is_begun step refines is =
    let journal = world.journal in
    let at = found_by Deliver (next_waiting journal) step is in
    subst (Asked (world_setting_at world) row Flush is_begun journal) at.made (record {
      may = λ may few room. omega (arith, least_is_small journal at.number at.is room);
      none = refl;
      brought = refl;
      fewer = λ room. subst (λ o. flush_left
          (next_waiting (journal ++ piece (world_setting_at world) journal row (Deliver at.number)))
          < flush_left o) (sym at.is) (nearer
          (next_waiting (journal ++ piece (world_setting_at world) journal row (Deliver at.number)))
          at.number (omega (arith, least_is_small journal at.number at.is room))
          (λ m is. rise (world_setting_at world) journal row at.number m at.is is));
    })
asked hops rise world row Drain is_begun step refines is =
    let journal = world.journal in
    let at = found_by Hop (next_travelling journal) step is in
    let whole = tie_of world refines in
    subst (Asked (world_setting_at world) row Drain is_begun journal) at.made (record {
      may = λ may few room. omega (arith, few, least_is_packet journal at.number at.is);
      none = refl;
      brought = refl;
      fewer = λ room. hops (world_setting_at world) journal row at.number whole.sound
          (reached_of world refines) at.is;
    })

-- ---- packets that enter

pub none_yet : (event : Event) → brought_so_far event false ≡ 0
none_yet (One own) = refl
none_yet Flush = refl
none_yet Drain = refl

-- where it asks for no further step
pub brought_all : (event : Event) (is_begun : Bool) (journal : List Item)
    → replay_next_step event is_begun journal ≡ None → brought_so_far event is_begun ≡ replay_event_brings_in event
brought_all (One own) false journal is = cc is
brought_all (One own) true journal is = refl
brought_all Flush is_begun journal is = refl
brought_all Drain is_begun journal is = refl

comes_few : (step : Step) → world_packets_coming_in step ≤ 1
comes_few (Packet switch header) = omega arith
comes_few _ = omega arith

pub brought_few : (event : Event) → replay_event_brings_in event ≤ 1
brought_few (One step) = comes_few step
brought_few Flush = omega arith
brought_few Drain = omega arith
