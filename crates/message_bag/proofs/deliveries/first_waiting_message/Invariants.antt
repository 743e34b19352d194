-- no message up to the place waits
use Rattle.std.proofs.Common.{◌<◌, ◌≡◌, ◌≤◌, false, ℕ}
use Rattle.message_bag.specs.Exports.{is_waiting}
use Rattle.message_bag.proofs.deliveries.first_waiting_message.Given as goal

abbrev pub invariant-loop-place : goal.invariant-loop-place
invariant-loop-place l =
    (number : ℕ) → l.from < number → number ≤ l.place → is_waiting l.statuses number ≡ false
