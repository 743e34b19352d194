use Rattle.std.proofs.Common.{◌∙◌, List, Some, ap, refl, set, subst, sym}
use Rattle.base.proofs.Exports.{slice_get_read}
use Rattle.trace_audit.specs.Exports.{HasAuditShape, audit_slot_of_row}
use Rattle.trace_audit.specs.declared.index.Shape.{Shape}
use Rattle.trace_audit.proofs.AuditIndexedRows.{has_shape, next_indexed}
use Rattle.trace_audit.proofs.index.AuditIndex.add.Goals as goal

pub audit_slot_of_row-slot-requires : goal.audit_slot_of_row-slot-requires
audit_slot_of_row-slot-requires c =
    let rows = c.args.rows.now in
    let place = c.args.place in
    let row = c.index-rows-place.result in
    subst (λ (xs : List Shape). HasAuditShape xs row) (sym c.deref.ensures.value)
    (has_shape c.args.self.now.shapes.items rows place row c.requires.index.shapes
    (slice_get_read rows _ place row refl c.requires.place c.index-rows-place.is))

pub returns : goal.returns
returns c =
    let rows = c.args.rows.now in
    let place = c.args.place in
    let row = c.index-rows-place.result in
    let last = c.args.self.now.last.items in
    let at = c.index-before.result.now in
    let slot = c.audit_slot_of_row-slot.ensures.slot
    ∙ ap (λ (xs : List Shape). audit_slot_of_row xs row) c.deref.ensures.value in
    next_indexed rows place row at c.args.self.now _
    (slice_get_read rows _ place row refl c.requires.place c.index-rows-place.is) c.requires.index
    (rw slot at (slice_get_read last 4096 c.audit_slot_of_row-slot.result at (sym c.requires.index.slots)
    c.audit_slot_of_row-slot.ensures.bound c.index-before.ensures))
    (ap (λ n. set last n (Some place)) slot) c.in_ok-push.ensures.items refl
