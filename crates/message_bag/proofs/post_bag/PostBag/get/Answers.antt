use Rattle.std.proofs.Common.{◌∙◌, ◌≡◌, ap, length, sym, true, zip}
use Rattle.message_bag.specs.Deliveries as statuses
use Rattle.message_bag.proofs.BagTakenMessages.{found_known, found_there}
use Rattle.message_bag.proofs.BagFramesByStatus.{deliverable_as}
use Rattle.message_bag.proofs.post_bag.PostBag.get.Goals as goal

same : (c : goal.After-take) → length c.bag.result.now ≡ length c.self.inside.deliveries
same c = ap length c.bag.ensures ∙ c.self.invariant

are : (c : goal.After-take) → zip c.bag.result.now c.self.inside.deliveries ≡ c.args.self.now
are c = cc (c.bag.ensures, c.self.view_is)

is_there : (c : goal.After-take)
    → statuses.is_deliverable c.self.inside.deliveries c.args.number ≡ true
is_there c =
    deliverable_as c.bag.result.now c.self.inside.deliveries _ c.args.number (same c) (are c)
    ∙ sym c.may_be_delivered.ensures ∙ c.if-may_be_delivered.true

pub returns-then-may_be_delivered-clause-found : goal.returns-then-may_be_delivered-clause-found
returns-then-may_be_delivered-clause-found c = rw (are c) at (found_known c.bag.result.now
    c.self.inside.deliveries c.args.number (same c) (is_there c) c.take.result c.take.ensures.none)

pub returns-then-may_be_delivered-clause-message : goal.returns-then-may_be_delivered-clause-message
returns-then-may_be_delivered-clause-message c = rw (are c) at
    (found_there c.bag.result.now c.self.inside.deliveries c.args.number (same c) (is_there c)
    c.take.result c.take.ensures.message)
