use Rattle.std.proofs.Common.{◌<◌, ◌∙◌, ◌≡◌, ◌≤◌, None, ap, arith, get_or-set_other, inl, inr, length, length-set, refl, ℕ}
use Rattle.base.proofs.Exports.{cases_lt, get_or_past}
use Rattle.travelling.specs.Travelling.{TravellingFlights, travelling_stands_at, flight}
use Rattle.travelling.proofs.TravellingMasks.{marked_on, room_on}
use Rattle.travelling.proofs.travelling.Travelling.put.Goals.{then-self-len, else-self-len}
use Rattle.travelling.proofs.travelling.Travelling.put.Goals as goal

pub invariant_of-self : goal.invariant_of-self
invariant_of-self c = record {
  few = c.self.invariant.few;
  none = c.self.invariant.none;
  room = λ i below. omega (arith, c.self.invariant.room i below, c.make_bits.ensures.grown);
  marked = marked_on c.self.inside.slots.items c.self.inside.slots.items c.self.inside.by_switch
      c.make_bits.new.self c.self.invariant.marked (λ i. refl) c.make_bits.ensures.same;
  below = c.self.invariant.below;
}

pub invariant_of-self-in_err-make_traveller_slot : goal.invariant_of-self-in_err-make_traveller_slot
invariant_of-self-in_err-make_traveller_slot c = record {
  few = omega (arith, c.make_traveller_slot.ensures.few, c.self.invariant.few, c.ranges.packet.fits);
  none = λ i below. c.make_traveller_slot.ensures.same i ∙ c.self.invariant.none i below;
  room = room_on c.self.inside.slots.items c.make_traveller_slot.new.slots.items
      c.self.inside.by_switch c.make_bits.new.self c.args.packet c.self.invariant.room
      c.make_traveller_slot.ensures.few c.make_bits.ensures.grown c.in_ok-make_bits.ensures.room;
  marked = marked_on c.self.inside.slots.items c.make_traveller_slot.new.slots.items
      c.self.inside.by_switch c.make_bits.new.self c.self.invariant.marked
      c.make_traveller_slot.ensures.same c.make_bits.ensures.same;
  below = λ i s past. ap (travelling_stands_at s) (c.make_traveller_slot.ensures.same i)
      ∙ c.self.invariant.below i s past;
}

pub set_packet_slot-requires-clause-marked : goal.set_packet_slot-requires-clause-marked
set_packet_slot-requires-clause-marked c = marked_on c.self.inside.slots.items c.make_traveller_slot.new.slots.items
    c.self.inside.by_switch c.make_bits.new.self c.self.invariant.marked c.make_traveller_slot.ensures.same
    c.make_bits.ensures.same

pub set_packet_slot-requires-clause-below : goal.set_packet_slot-requires-clause-below
set_packet_slot-requires-clause-below c = λ i s past.
    ap (travelling_stands_at s) (c.make_traveller_slot.ensures.same i) ∙ c.self.invariant.below i s past

pub invariant_of-self-2 : goal.invariant_of-self-2
invariant_of-self-2 c =
    let long : length c.set_packet_slot.new.slots.items ≡ length c.make_traveller_slot.new.slots.items =
    ap length c.set_packet_slot.ensures.slots ∙ length-set c.make_traveller_slot.new.slots.items c.args.packet _ in
    let low : c.if-self-len.first ≤ c.args.packet = elim c.if-self-len.branch [
      | then-self-len w ↦ omega (arith, w.first-is, w.min-first.ensures)
      | else-self-len w ↦ omega (arith, w.first-is)
    ] in
    let before : (i : ℕ) → i < c.if-self-len.first → flight c.self.inside.slots.items i ≡ None =
    λ i below. elim c.if-self-len.branch [
      | then-self-len w ↦ c.self.invariant.none i (omega (arith, w.first-is, w.min-first.ensures))
      | else-self-len w ↦ elim (cases_lt i (length c.self.inside.slots.items)) [
        | inl there ↦ c.self.invariant.none i (omega (arith, w.if-self-len.false, c.len.ensures))
        | inr past ↦ get_or_past c.self.inside.slots.items i None past
      ]
    ] in
    let all = room_on c.self.inside.slots.items c.make_traveller_slot.new.slots.items
    c.self.inside.by_switch c.make_bits.new.self c.args.packet c.self.invariant.room
    c.make_traveller_slot.ensures.few c.make_bits.ensures.grown c.in_ok-make_bits.ensures.room in record {
      few = omega (arith, c.make_traveller_slot.ensures.few, c.self.invariant.few, c.ranges.packet.fits);
      none = λ i below. ap (λ (slots : TravellingFlights). flight slots i) c.set_packet_slot.ensures.slots
          ∙ get_or-set_other c.make_traveller_slot.new.slots.items c.args.packet i _ None
          (λ e. absurd (omega arith)) ∙ c.make_traveller_slot.ensures.same i ∙ before i below;
      room = λ i below. omega (arith, all i (omega (arith, below, long)), c.set_packet_slot.ensures.room);
      marked = c.set_packet_slot.ensures.marked;
      below = c.set_packet_slot.ensures.below;
    }
