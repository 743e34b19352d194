use Rattle.std.proofs.Common.{◌∙◌, ◌≡◌, List, ap, arith, get_or, length, slice_get, sym}
use Rattle.base.proofs.Exports.{slice_get-get_or}
use Rattle.five_tuple.specs.Exports.{AddressBlock}
use Rattle.trace_audit.specs.Exports.{audit_index_slot_of}
use Rattle.trace_audit.specs.declared.index.Shape.{Shape}
use Rattle.trace_audit.proofs.AuditIndexedRows.{sought_all, sought_more}
use Rattle.trace_audit.proofs.index.AuditIndex.best.Goals as goal

pub loop-place-preserved : goal.loop-place-preserved
loop-place-preserved c =
    let shapes = c.args.self.now.shapes.items in
    let rows = c.args.rows.now in
    let fields = c.args.fields.now in
    let first = c.loop-place.best in
    let better = c.best_in-best.result in
    let place = c.loop-place.place in
    let read = c.deref-shape-items.result.now in
    let none : Shape = record { src = 0; dst = 0 } in
    let shape : Shape = get_or read place none in
    let src = c.src.inside.address in
    let dst = c.dst.inside.address in
    sought_more shapes rows fields place shape src dst first better c.requires.rows
    (ap (λ xs. slice_get xs place) (sym c.deref-shape-items.ensures.value)
    ∙ slice_get-get_or read place none c.loop-place-test.true)
    (ap (λ (p : AddressBlock). p.address) (c.src.view_is ∙ c.new-src.ensures.block))
    (ap (λ (p : AddressBlock). p.address) (c.dst.view_is ∙ c.new-dst.ensures.block))
    (rw (c.audit_index_slot-slot.ensures.slot ∙ ap (λ (xs : List Shape). audit_index_slot_of (length xs) place src dst)
    c.deref.ensures.value) at c.best_in-best.ensures)
    c.loop-place.invariant

pub returns : goal.returns
returns c =
    let shapes = c.args.self.now.shapes.items in
    let all : c.loop-place.place ≡ length shapes = omega (
      arith,
      c.loop-place-test.false,
      c.loop-place.auto.place-end,
      ap length c.deref-shape-items.ensures.value,
    ) in
    sought_all c.args.rows.now c.args.fields.now c.args.self.now c.loop-place.best c.requires.index
    (rw all at c.loop-place.invariant)
