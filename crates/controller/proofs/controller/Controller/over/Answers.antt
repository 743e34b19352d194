use Rattle.std.proofs.Common.{refl}
use Rattle.version_update.specs.Exports.{mark_record_after_over, version_marks_with_switch_changed}
use Rattle.controller.specs.Exports.{ControllerValue, ControllerSettlesWith, ControllerStaysSound}
use Rattle.controller.proofs.ControllerNewestPolicy.{newest_stays}
use Rattle.controller.proofs.ControllerKeptVersions.{whole_at, settles_at, settles_seen, stays_at}
use Rattle.controller.proofs.controller.Controller.over.Goals as goal

pub invariant_of-self : goal.invariant_of-self
invariant_of-self c = search whole_at

pub returns : goal.returns
returns c =
    let old = c.args.self.now in
    let new : ControllerValue = record {
      marks = c.over-settled.new.self;
      plans = c.controller_settled_sends.new.versions.items;
    } in
    let settles : ControllerSettlesWith (version_marks_with_switch_changed c.args.s mark_record_after_over old.marks) old.plans new =
    search settles_at in
    let stays : ControllerStaysSound old new = search stays_at in
    let sent = c.controller_settled_sends.ensures.sends _ (settles_seen c.args.s mark_record_after_over _ _ _ _ _
    c.self.view_is c.over-settled.ensures.settled) in record {
      after = settles;
      newest = newest_stays (version_marks_with_switch_changed c.args.s mark_record_after_over old.marks) old new stays.controller
          settles refl;
      sends = search sent;
      rule = stays;
    }
