use Rattle.trace_audit.proofs.words.cut_audit_text_near.Goals as goal

pub cut_audit_text_at-requires : goal.cut_audit_text_at-requires
cut_audit_text_at-requires c = (c.args.byte, c.near_place_in_trace.ensures)
