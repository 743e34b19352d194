-- A crash and a restart, computed, with an update meanwhile.
use Rattle.std.proofs.Common.{[], ◌++◌, ◌∷◌, ◌≡◌, refl}
use Rattle.switch_table.specs.Exports.{cache_all_touched}
use Rattle.ctrl_msg.specs.declared.message.Body.TheVariants as body
use Rattle.steps.specs.declared.step.Step.TheVariants as step
use Rattle.journal.specs.declared.item.Item.TheVariants as item
use Rattle.update_machine.proofs.JournalExampleNetworks.{advert, answered, at, delivered, left_by, one, open_net, plan_p, rebooted, rebooting, tables_of, to, to_controller}

-- a crashes and begins boot 2; it opens at version 2, which became current before its opening came
pub boot_rows : left_by open_net (rebooting ++ at 6 (step.Update 1) ∷ at 7 (step.Deliver 5) ∷ at 8
    (step.Deliver 6) ∷ at 9 (step.Deliver 7) ∷ at 10 (step.Deliver 8) ∷ at 11 (step.Deliver 9)
    ∷ at 12 (step.Deliver 9) ∷ at 13 (step.Deliver 4) ∷ at 14 (step.Deliver 4) ∷ [])
    ≡ rebooted ++ item.Row 6 (step.Update 1) ∷ item.Submitted 1 2
    ∷ item.Sent 5 (to 0 (body.Install 2 (tables_of plan_p 2 0))) ∷ item.Sent 6
    (to 1 (body.Install 1 (tables_of plan_p 2 1))) ∷ answered 7 5 7 (body.Installed 0 2 2)
    ++ answered 8 6 8 (body.Installed 1 1 2) ++ delivered 9 7 ++ delivered 10 8 ++ item.Current 2
    ∷ item.Sent 9 (to 0 (body.Stamp 2 2 cache_all_touched))
    ∷ item.Sent 10 (to 1 (body.Stamp 1 2 cache_all_touched)) ∷ answered 11 9 11 (body.Stamped 0 2 2)
    ++ answered 12 9 12 (body.Stamped 0 2 2) ++ delivered 13 4 ++ item.Opened 0 2
    ∷ item.Sent 13 (to 1 (advert 0 2 1 2)) ∷ item.Sent 14 (to 0 (advert 0 1 1 2))
    ∷ item.Sent 15 (to 0 (advert 1 1 3 1)) ∷ delivered 14 4
unfolding left_by
boot_rows = refl

-- ---- a switch that is over, computed

-- a crashes twice; once it is over, the update goes on without it, and its new boot does not open
-- by an old message
pub over_rows : left_by open_net (rebooting ++ at 6 (step.Crash 0) ∷ at 7 (step.Update 1)
    ∷ at 8 (step.Confirm 0) ∷ at 9 (step.Restart 0) ∷ at 10 (step.Deliver 4)
    ∷ at 11 (step.Packet 0 one) ∷ at 12 (step.Deliver 6) ∷ at 13 (step.Deliver 8) ∷ [])
    ≡ rebooted ++ item.Row 6 (step.Crash 0) ∷ item.Down 0 ∷ item.Row 7 (step.Update 1)
    ∷ item.Submitted 1 2 ∷ item.Sent 5 (to 0 (body.Install 2 (tables_of plan_p 2 0)))
    ∷ item.Sent 6 (to 1 (body.Install 1 (tables_of plan_p 2 1))) ∷ item.Row 8 (step.Confirm 0)
    ∷ item.OverNow 0 ∷ item.Row 9 (step.Restart 0) ∷ item.Booted 0 3
    ∷ item.Sent 7 (to_controller (body.Hello 0 3)) ∷ delivered 10 4
    ++ item.Row 11 (step.Packet 0 one) ∷ item.Closed 1 0 ∷ answered 12 6 8 (body.Installed 1 1 2)
    ++ delivered 13 8 ++ item.Current 2 ∷ item.Sent 9 (to 1 (body.Stamp 1 2 cache_all_touched)) ∷ []
unfolding left_by
over_rows = refl
