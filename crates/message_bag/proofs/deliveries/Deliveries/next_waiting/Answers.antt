use Rattle.std.proofs.Common.{ap, arith, length}
use Rattle.message_bag.proofs.BagWaitingStatuses.{next_is, next_is_none, searched}
use Rattle.message_bag.proofs.deliveries.Deliveries.next_waiting.Goals as goal

pub returns-then-place-count : goal.returns-then-place-count
returns-then-place-count c =
    next_is (searched c.args.from c.self.invariant (omega arith) c.first_waiting_message-place.ensures c.self.view_is
    c.deref.ensures.value) (omega (arith, ap length c.self.view_is))

pub returns-else-place-count : goal.returns-else-place-count
returns-else-place-count c =
    next_is_none (searched c.args.from c.self.invariant (omega arith) c.first_waiting_message-place.ensures c.self.view_is
    c.deref.ensures.value) (omega (arith, ap length c.self.view_is))
