use Rattle.base.proofs.Exports.{into_iter_items, into_iter_len}
use Rattle.controller.specs.declared.sends.Act.TheVariants.{Post}
use Rattle.world_log.proofs.LogMessages.{IsNoting}
use Rattle.world_log.proofs.log.Log.send_all.Given as goal

-- messages are noted as acts
abbrev pub invariant-loop-message : goal.invariant-loop-message
invariant-loop-message l = IsNoting Post l.fn.messages.items l.yielded
    (into_iter_items l.message-iterator) (into_iter_len l.message-iterator) l.initial.self l.self
