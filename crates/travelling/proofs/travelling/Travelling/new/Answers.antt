use Rattle.std.proofs.Common.{◌∙◌, ap, arith, length, sym}
use Rattle.travelling.specs.SwitchIndex.{is_traveller_marked}
use Rattle.travelling.specs.Travelling.{TravellingFlights, travelling_stands_at, flight}
use Rattle.travelling.proofs.TravellingMasks.{none_marked}
use Rattle.travelling.proofs.travelling.Travelling.new.Goals as goal

pub invariant_of-result : goal.invariant_of-result
invariant_of-result c = record {
  few = omega (arith, ap length c.new.ensures.items);
  none = λ i below. absurd (omega (arith, below));
  room = λ i below. absurd (omega (arith, below, ap length c.new.ensures.items));
  marked = λ i s below. ap (λ by_switch. is_traveller_marked by_switch i s) c.new-2.ensures ∙ none_marked i s
      ∙ sym (ap (λ (slots : TravellingFlights). travelling_stands_at s (flight slots i)) c.new.ensures.items);
  below = λ i s past. ap (λ (slots : TravellingFlights). travelling_stands_at s (flight slots i)) c.new.ensures.items;
}
