use Rattle.std.proofs.Common.{◌-◌, ◌∙◌, ◌≡◌, None, Option, ap, arith, eqb-true, length, nat_cmp, ne_eqb, set, sym, ℕ}
use Rattle.base.proofs.Exports.{get, nil_from_length, option_or, unsigned_tied}
use Rattle.trace_audit.specs.Exports.{audit_packet_seen, trace_run_get}
use Rattle.trace_audit.specs.declared.packets.TracePacket.{TracePacket}
use Rattle.trace_audit.proofs.AuditNumberedItems.{push_here, push_there, run_below, run_past, seen_put, set_here, set_there}
use Rattle.trace_audit.proofs.packets.AuditedPackets.put.Goals as goal
use Rattle.trace_audit.proofs.packets.AuditedPackets.put.Goals.{then-number-self+else-place-len+else-place-len-2, else-number-self}

pub returns-then-is_empty : goal.returns-then-is_empty
returns-then-is_empty c =
    let old = c.args.self.now in
    let number = c.args.number in
    let item = c.args.packet in
    let others : ℕ → Option TracePacket = get nat_cmp old.others in
    let items = c.in_ok-push.ensures.items in
    let none : length old.run.items ≡ 0 = sym old.run.ok.0
    ∙ eqb-true old.run.len 0 (sym c.is_empty.ensures ∙ c.if-is_empty.true) in
    let empty = nil_from_length old.run.items none in
    let gone : (n : ℕ) → trace_run_get number old.run.items n ≡ trace_run_get old.first old.run.items n =
    λ n. run_past number old.run.items n (omega (arith, none))
    ∙ sym (run_past old.first old.run.items n (omega (arith, none))) in
    seen_put audit_packet_seen (λ n. option_or (trace_run_get old.first old.run.items n) (others n))
    (λ n. option_or (trace_run_get number c.push.new.self.items n) (others n)) number item
    (ap (λ xs. option_or (trace_run_get number xs number) (others number)) items ∙ ap (λ o. option_or o
    (others number)) (push_here number old.run.items number item (omega arith) (omega arith)))
    (λ n other. ap (λ xs. option_or (trace_run_get number xs n) (others n)) items
    ∙ ap (λ o. option_or o (others n))
    (push_there number old.run.items number item (omega arith) (omega (arith, none)) n other ∙ gone n))

pub returns-then-place-len : goal.returns-then-place-len
returns-then-place-len c =
    let old = c.args.self.now in
    let number = c.args.number in
    let item = c.args.packet in
    let others : ℕ → Option TracePacket = get nat_cmp old.others in
    let above = c.if-number-self.true in
    seen_put audit_packet_seen (λ n. option_or (trace_run_get old.first old.run.items n) (others n))
    (λ n. option_or (trace_run_get old.first (set old.run.items (number - old.first) item) n) (others n))
    number item
    (ap (λ o. option_or o (others number)) (set_here old.first old.run.items number item above
    (omega (arith, c.if-place-len.true, c.len.ensures, old.run.ok.0))))
    (λ n other. ap (λ o. option_or o (others n))
    (set_there old.first old.run.items number item above n other))

pub returns-then-place-len-2 : goal.returns-then-place-len-2
returns-then-place-len-2 c =
    let old = c.args.self.now in
    let number = c.args.number in
    let item = c.args.packet in
    let others : ℕ → Option TracePacket = get nat_cmp old.others in
    let items = c.in_ok-push-2.ensures.items in
    let end : number - old.first ≡ length old.run.items =
    omega (arith, c.if-place-len-2.true, c.len-then-number-self.ensures, old.run.ok.0) in
    let above = c.if-number-self.true in
    seen_put audit_packet_seen (λ n. option_or (trace_run_get old.first old.run.items n) (others n))
    (λ n. option_or (trace_run_get old.first c.push-then-place-len-2.new.self.items n) (others n)) number item
    (ap (λ xs. option_or (trace_run_get old.first xs number) (others number)) items ∙ ap (λ o. option_or o
    (others number)) (push_here old.first old.run.items number item above end))
    (λ n other. ap (λ xs. option_or (trace_run_get old.first xs n) (others n)) items ∙ ap (λ o. option_or
    o (others n)) (push_there old.first old.run.items number item above end n other))

pub returns : goal.returns
returns c =
    let old = c.args.self.now in
    let number = c.args.number in
    let run = old.run.items in
    let none : trace_run_get old.first run number ≡ None = elim c.if-number-self.branch [
      | then-number-self+else-place-len+else-place-len-2 w ↦ run_past old.first run number
          (omega (arith, w.if-place-len.false, w.len.ensures, old.run.ok.0))
      | else-number-self w ↦ run_below old.first run number w.if-number-self.false
    ] in
    let updates = c.in_ok-insert.ensures.updates in
    seen_put audit_packet_seen (λ n. option_or (trace_run_get old.first run n) (get nat_cmp old.others n))
    (λ n. option_or (trace_run_get old.first run n) (get nat_cmp c.insert.new.self n)) number c.args.packet
    (ap (λ o. option_or o (get nat_cmp c.insert.new.self number)) none ∙ updates.1)
    (λ n other. ap (option_or (trace_run_get old.first run n))
    (updates.2 n (unsigned_tied number n ∙ ne_eqb number n (λ e. other (sym e)))))
