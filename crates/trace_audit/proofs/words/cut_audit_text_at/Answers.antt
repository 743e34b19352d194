use Rattle.std.proofs.Common.{◌∙◌, sym}
use Rattle.base.proofs.Exports.{take_rest}
use Rattle.five_tuple.proofs.FiveTupleCallerLemmas.{parts_at, parts_none}
use Rattle.trace_audit.proofs.words.cut_audit_text_at.Goals as goal

pub returns-in-None : goal.returns-in-None
returns-in-None c = λ byte is. parts_none byte c.args.text.now (sym is ∙ c.in-None.is)

pub returns-in-Some : goal.returns-in-Some
returns-in-Some c = λ byte is. simp take_rest
    (parts_at byte c.args.text.now c.in-Some.place (sym is ∙ c.in-Some.is))
