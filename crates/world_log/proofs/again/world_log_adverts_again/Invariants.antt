use Rattle.std.proofs.Common.{◌∷◌, ◌≡◌}
use Rattle.update_machine.specs.Exports.{Hello}
use Rattle.ctrl_msg.specs.Exports.{message_to_controller}
use Rattle.world_log.proofs.LogRelinking.{again_below}
use Rattle.world_log.proofs.again.world_log_adverts_again.Given as goal

-- the hello, and what the neighbours so far are told
abbrev pub invariant-loop-other : goal.invariant-loop-other
invariant-loop-other l = l.messages.items
    ≡ message_to_controller (Hello l.s l.switch.boot) ∷ again_below l.switch l.near l.other
