use Rattle.base.proofs.Exports.{into_iter_items, into_iter_len}
use Rattle.world_log.proofs.LogMessages.{IsNoting}
use Rattle.world_log.proofs.log.Log.note_acts.Given as goal

abbrev pub invariant-loop-act : goal.invariant-loop-act
invariant-loop-act l = IsNoting (λ act. act) l.fn.acts.items l.yielded
    (into_iter_items l.act-iterator) (into_iter_len l.act-iterator) l.initial.self l.self
