use Rattle.controller.specs.Exports.{controller_record_after_reply}
use Rattle.controller.proofs.ControllerKeptVersions.{whole_at, settles_at, settles_seen, stays_at}
use Rattle.controller.proofs.controller.Controller.replied.Goals as goal

pub invariant_of-self : goal.invariant_of-self
invariant_of-self c = search whole_at

pub returns : goal.returns
returns c =
    let change = controller_record_after_reply c.args.reply c.args.boot c.args.version in
    let sent = c.controller_settled_sends.ensures.sends _ (settles_seen c.args.s change _ _ _ _ _
    c.self.view_is c.take_in-settled.ensures.settled) in
    search (settles_at, stays_at, sent)
