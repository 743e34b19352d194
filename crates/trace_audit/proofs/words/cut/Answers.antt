use Rattle.trace_audit.proofs.words.cut.Goals as goal

pub cut_audit_text_at-requires : goal.cut_audit_text_at-requires
cut_audit_text_at-requires c = (c.args.byte, c.place_of.ensures)
