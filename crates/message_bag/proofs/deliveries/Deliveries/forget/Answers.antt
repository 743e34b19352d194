use Rattle.std.proofs.Common.{arith}
use Rattle.message_bag.specs.Exports.{bag_forgotten_status}
use Rattle.message_bag.proofs.BagWaitingStatuses.{changed_passed}
use Rattle.message_bag.proofs.deliveries.Deliveries.forget.Goals as goal

pub invariant_of-self : goal.invariant_of-self
invariant_of-self c = changed_passed bag_forgotten_status _ c.args.number _ _ c.args.self.now _ _
    (λ status. grind arith) c.self.invariant c.requires c.self.view_is c.index_mut.ensures.value
    c.deref.ensures.value c.first_waiting_message-self-inside.ensures
