-- The numbers of the packet that hops next and of the message that is delivered next are small.
use Rattle.std.proofs.Common.{◌+◌, ◌<◌, ◌≡◌, ◌≤◌, Bool, List, Option, Some, arith, cond, false, find, suc, true, zero, ℕ}
use Rattle.base.proofs.Exports.{range_with_len}
use Rattle.update_machine.specs.Exports.{MachineJournalHasRoom, Item, machine_count_of, is_machine_sending_item, is_waiting, journal_next_message, journal_next_packet, next_travelling, next_waiting, travels_in_journal}
use Rattle.update_machine.specs.declared.full.TheConstants.{FULL_AT}

one_more : (from count i : ℕ) (found : Option ℕ) (b : Bool)
    → (found ≡ Some i → i < from + 1 + count) → cond b (Some from) found ≡ Some i
    → i < from + suc count
one_more from count i found true rest is = let same : from ≡ i = cc is in omega (arith, same)
one_more from count i found false rest is = omega (arith, rest is)

-- a number that is found in a range is in it
found_within : (test : ℕ → Bool) (from count i : ℕ)
    → find test (range_with_len from count) ≡ Some i → i < from + count
found_within test from zero i is = cc is
found_within test from (suc count) i is =
    one_more from count i (find test (range_with_len (from + 1) count)) (test from)
    (found_within test (from + 1) count i) is

pub least_is_packet : (journal : List Item) (i : ℕ) → next_travelling journal ≡ Some i
    → i < journal_next_packet journal
unfolding next_travelling journal_next_packet
least_is_packet journal i is = omega (arith, found_within (travels_in_journal journal) 1 _ i is)

-- where there is room
pub least_is_small : (journal : List Item) (n : ℕ) → next_waiting journal ≡ Some n
    → MachineJournalHasRoom journal → n ≤ FULL_AT
unfolding next_waiting journal_next_message
least_is_small journal n is room =
    omega (arith, room, found_within (is_waiting journal) 1 (machine_count_of is_machine_sending_item journal) n is)
