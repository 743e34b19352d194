-- How often switches were called, computed.
use Rattle.std.proofs.Common.{[], ◌∷◌, ◌≡◌, List, Some, false, refl}
use Rattle.update_machine.specs.Exports.{Body, Drop, How, Item, Step, journal_handled_count, journal_standing_of, journal_steps_in, travels_in_journal}
use Rattle.update_machine.proofs.JournalExampleNetworks.{advert, any_word, at, left_by, line_of_three, one, round, to}

-- in the ring a takes the packet in and moves it on, b sends it back, and at a it is stuck
pub round_at_a : journal_handled_count round 0 ≡ 3
unfolding journal_handled_count journal_steps_in travels_in_journal journal_standing_of
round_at_a = refl

pub round_at_b : journal_handled_count round 1 ≡ 1
unfolding journal_handled_count journal_steps_in travels_in_journal journal_standing_of
round_at_b = refl

-- a packet is closed at a switch that is down, which is a call too; the hop of a packet that didn't
-- enter is none
pub closed_at_b : journal_handled_count (Item.Row 1 (Step.Crash 1) ∷ Item.Down 1 ∷ Item.Row 2
    (Step.Packet 1 one) ∷ Item.Closed 1 1 ∷ Item.Row 3 (Step.Hop 1) ∷ Item.Nothing ∷ []) 1 ≡ 1
unfolding journal_handled_count journal_steps_in travels_in_journal journal_standing_of
closed_at_b = refl

-- nor is the hop of one that has ended
pub ended_at_a : journal_handled_count (Item.Row 1 (Step.Packet 0 one) ∷ Item.Entered 1 0 one
    ∷ Item.Dropped 1 ∷ Item.Row 2 (Step.Hop 1) ∷ Item.Nothing ∷ []) 0 ≡ 1
unfolding journal_handled_count journal_steps_in travels_in_journal journal_standing_of
ended_at_a = refl

-- three switches in a row: the packet finds the link to its first target down at the second one,
-- where it arrives at once
abbrev arriving : List Item
arriving = Item.Row 1 (Step.Packet 0 one) ∷ Item.Entered 1 0 one
    ∷ Item.Seeking 1 1 0 (0 ∷ 1 ∷ 2 ∷ []) ∷ Item.Row 2 (Step.LinkDown 1 2) ∷ Item.LinkIs 1 2 false
    ∷ Item.Sent 1 (to 0 (advert 1 1 2 1)) ∷ Item.Row 3 (Step.Hop 1) ∷ Item.Hopped 1 1
    ∷ Item.Row 4 (Step.Hop 1) ∷ Item.FoundDown 1 1 2
    ∷ Item.Rerouted 1 (1 ∷ []) ∷ Item.Decided 1 1 (Some 100) Drop (How.Authority 1 0)
    ∷ Item.Sent 2 (to 0 (Body.CacheRule 1 any_word (Some 100) Drop)) ∷ Item.Dropped 1 ∷ []

pub arriving_rows : left_by line_of_three (at 1 (Step.Packet 0 one) ∷ at 2 (Step.LinkDown 1 2)
    ∷ at 3 (Step.Hop 1) ∷ at 4 (Step.Hop 1) ∷ []) ≡ arriving
unfolding left_by
arriving_rows = refl

-- that hop is a call, and the arrival another one
pub arriving_at_b : journal_handled_count arriving 1 ≡ 2
unfolding journal_handled_count journal_steps_in travels_in_journal journal_standing_of
arriving_at_b = refl
