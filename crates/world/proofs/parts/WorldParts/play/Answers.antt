-- Each kind of step behind its row.
use Rattle.std.proofs.Common.{◌≡◌, Result}
use Rattle.update_machine.specs.Exports.{Step}
use Rattle.world.specs.Exports.{WorldStepGoes, WorldStepHasBegun, WorldPlaysStep}
use Rattle.world.specs.declared.parts.WorldParts.{WorldParts}
use Rattle.world.proofs.WorldStepClauses.{begun, played, with_journal}
use Rattle.world.proofs.parts.WorldParts.play.Goals as goal
use Rattle.world.proofs.parts.WorldParts.play.Goals.{In_ok-push}

-- the method of its kind may take it
takes : (c : In_ok-push) (kind : Step) → c.args.step.now ≡ kind
    → WorldStepHasBegun kind (with_journal c.args.self.now c.push.new.self)
takes c kind is = begun c.args.row c.args.step.now kind c.args.self.now c.push.new.self c.requires
    c.in_ok-push.ensures.pushed is

-- and plays it
plays : {T E : Type 0} (c : In_ok-push) (kind : Step) → c.args.step.now ≡ kind → (r : Result T E)
    (new : WorldParts) → WorldPlaysStep kind r (with_journal c.args.self.now c.push.new.self) new
    → WorldStepGoes r c.args.self.now.log.journal c.args.row c.args.step.now c.args.self.now new
plays c kind is = played c.args.row c.args.step.now kind c.args.self.now c.push.new.self c.requires
    c.in_ok-push.ensures.pushed is

pub packet-requires : goal.packet-requires
packet-requires c = takes (goal.at.packet-requires c).In_ok-push _ c.in-Packet.is

pub returns-in-Packet : goal.returns-in-Packet
returns-in-Packet c = plays (goal.at.returns-in-Packet c).In_ok-push _ c.in-Packet.is c.packet.result _
    c.packet.ensures

pub hop-requires : goal.hop-requires
hop-requires c = takes (goal.at.hop-requires c).In_ok-push _ c.in-Hop.is

pub returns-in-Hop : goal.returns-in-Hop
returns-in-Hop c = plays (goal.at.returns-in-Hop c).In_ok-push _ c.in-Hop.is c.hop.result _
    c.hop.ensures

pub lose-requires : goal.lose-requires
lose-requires c = takes (goal.at.lose-requires c).In_ok-push _ c.in-Lose.is

pub returns-in-Lose : goal.returns-in-Lose
returns-in-Lose c = plays (goal.at.returns-in-Lose c).In_ok-push _ c.in-Lose.is c.lose.result _
    c.lose.ensures

pub deliver-requires : goal.deliver-requires
deliver-requires c = takes (goal.at.deliver-requires c).In_ok-push _ c.in-Deliver.is

pub returns-in-Deliver : goal.returns-in-Deliver
returns-in-Deliver c = plays (goal.at.returns-in-Deliver c).In_ok-push _ c.in-Deliver.is c.deliver.result _
    c.deliver.ensures

pub forget-requires : goal.forget-requires
forget-requires c = takes (goal.at.forget-requires c).In_ok-push _ c.in-Forget.is

pub returns-in-Forget : goal.returns-in-Forget
returns-in-Forget c = plays (goal.at.returns-in-Forget c).In_ok-push _ c.in-Forget.is c.forget.result _
    c.forget.ensures

pub expire-requires : goal.expire-requires
expire-requires c = takes (goal.at.expire-requires c).In_ok-push _ c.in-Expire.is

pub returns-in-Expire : goal.returns-in-Expire
returns-in-Expire c = plays (goal.at.returns-in-Expire c).In_ok-push _ c.in-Expire.is c.expire.result _
    c.expire.ensures

pub update-requires : goal.update-requires
update-requires c = takes (goal.at.update-requires c).In_ok-push _ c.in-Update.is

pub returns-in-Update : goal.returns-in-Update
returns-in-Update c = plays (goal.at.returns-in-Update c).In_ok-push _ c.in-Update.is c.update.result _
    c.update.ensures

pub set_link-requires : goal.set_link-requires
set_link-requires c = takes (goal.at.set_link-requires c).In_ok-push _ c.in-LinkDown.is

pub returns-in-LinkDown : goal.returns-in-LinkDown
returns-in-LinkDown c = plays (goal.at.returns-in-LinkDown c).In_ok-push _ c.in-LinkDown.is c.set_link.result _
    c.set_link.ensures

pub set_link-requires-in-LinkUp : goal.set_link-requires-in-LinkUp
set_link-requires-in-LinkUp c = takes (goal.at.set_link-requires-in-LinkUp c).In_ok-push _ c.in-LinkUp.is

pub returns-in-LinkUp : goal.returns-in-LinkUp
returns-in-LinkUp c = plays (goal.at.returns-in-LinkUp c).In_ok-push _ c.in-LinkUp.is c.set_link-in-LinkUp.result _
    c.set_link-in-LinkUp.ensures

pub crash-requires : goal.crash-requires
crash-requires c = takes (goal.at.crash-requires c).In_ok-push _ c.in-Crash.is

pub returns-in-Crash : goal.returns-in-Crash
returns-in-Crash c = plays (goal.at.returns-in-Crash c).In_ok-push _ c.in-Crash.is c.crash.result _
    c.crash.ensures

pub confirm-requires : goal.confirm-requires
confirm-requires c = takes (goal.at.confirm-requires c).In_ok-push _ c.in-Confirm.is

pub returns-in-Confirm : goal.returns-in-Confirm
returns-in-Confirm c = plays (goal.at.returns-in-Confirm c).In_ok-push _ c.in-Confirm.is c.confirm.result _
    c.confirm.ensures

pub restart-requires : goal.restart-requires
restart-requires c = takes (goal.at.restart-requires c).In_ok-push _ c.in-Restart.is

pub returns-in-Restart : goal.returns-in-Restart
returns-in-Restart c = plays (goal.at.returns-in-Restart c).In_ok-push _ c.in-Restart.is c.restart.result _
    c.restart.ensures

pub resend-requires : goal.resend-requires
resend-requires c = takes (goal.at.resend-requires c).In_ok-push _ c.in-Resend.is

pub returns-in-Resend : goal.returns-in-Resend
returns-in-Resend c = plays (goal.at.returns-in-Resend c).In_ok-push _ c.in-Resend.is c.resend.result _
    c.resend.ensures
