-- Sending again, and steps that do nothing, computed.
use Rattle.std.proofs.Common.{[], ◌∷◌, ◌≡◌, Some, refl}
use Rattle.update_machine.specs.Exports.{Body, Drop, How, Item, Step}
use Rattle.update_machine.proofs.JournalExampleNetworks.{advert, at, left_by, one, open_net, plan_s, solo, tables_of, to, to_controller}

-- b and the controller send again what a network that has just begun holds
pub resend_rows : left_by open_net (at 1 (Step.Resend 1) ∷ []) ≡ Item.Row 1 (Step.Resend 1)
    ∷ Item.Sent 1 (to_controller (Body.Hello 1 1)) ∷ Item.Sent 2 (to 0 (advert 0 1 1 2))
    ∷ Item.Sent 3 (to 0 (advert 1 1 1 1)) ∷ Item.Sent 4 (to 1 (Body.OpenAt 1 1)) ∷ []
unfolding left_by
resend_rows = refl

-- one switch, which is its own authority
pub nothing_rows : left_by solo (at 1 (Step.Packet 0 one) ∷ at 2 (Step.Deliver 7)
    ∷ at 3 (Step.Update 1) ∷ at 4 (Step.Forget 1) ∷ at 5 (Step.Deliver 1) ∷ at 6 (Step.Lose 1)
    ∷ at 7 (Step.Expire 0 0) ∷ at 8 (Step.Confirm 0) ∷ []) ≡ Item.Row 1 (Step.Packet 0 one)
    ∷ Item.Entered 1 0 one ∷ Item.Decided 1 1 (Some 100) Drop (How.Authority 0 0) ∷ Item.Dropped 1
    ∷ Item.Row 2 (Step.Deliver 7) ∷ Item.Nothing ∷ Item.Row 3 (Step.Update 1) ∷ Item.Submitted 1 2
    ∷ Item.Sent 1 (to 0 (Body.Install 1 (tables_of plan_s 2 0))) ∷ Item.Row 4 (Step.Forget 1)
    ∷ Item.Forgotten 1 ∷ Item.Row 5 (Step.Deliver 1) ∷ Item.Nothing ∷ Item.Row 6 (Step.Lose 1)
    ∷ Item.Nothing ∷ Item.Row 7 (Step.Expire 0 0) ∷ Item.Nothing ∷ Item.Row 8 (Step.Confirm 0)
    ∷ Item.Nothing ∷ []
unfolding left_by
nothing_rows = refl
