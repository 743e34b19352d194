use Rattle.std.proofs.Common.{◌≡◌, None, Option, ap, option_map, rules}
use Rattle.switch_core.specs.Exports.{SwitchAnswer, Answered, SwitchValue, switch_admitted, switch_site_around, switch_entered_by_answer, switch_incoming_packet}
use Rattle.switch_core.proofs.SwitchAdmissions.{answered, by_lookup}
use Rattle.switch_core.proofs.SwitchLookupAnswers.{entry_uncached}
use Rattle.switch_core.proofs.switch.Switch.enter.Goals as goal

-- a packet that isn't looked up finds the switch closed
closed : (answer : Option SwitchAnswer) → None ≡ option_map Answered answer
    → switch_entered_by_answer None ≡ switch_entered_by_answer answer
closed answer is = search rules

pub answer_entry-requires : goal.answer_entry-requires
answer_entry-requires c = let site = switch_site_around c.args.near c.args.ports.now in
    by_lookup c.admit.new.self site
    (switch_incoming_packet c.args.self.now c.args.packet c.args.h.now) c.in-Some.forwarding
    (switch_admitted c.args.self.now site (switch_incoming_packet c.args.self.now c.args.packet c.args.h.now))
    (c.in-Some.ensures.answer site c.args.packet)

pub returns-in-None : goal.returns-in-None
returns-in-None c = let site = switch_site_around c.args.near c.args.ports.now in record {
  answer = closed (switch_admitted c.args.self.now site
      (switch_incoming_packet c.args.self.now c.args.packet c.args.h.now)) (c.in-None.ensures.answer site c.args.packet);
  uncached = entry_uncached c.args.self.now site c.args.packet c.args.h.now;
  after = c.admit.ensures.after;
}

pub returns-in-Some : goal.returns-in-Some
returns-in-Some c = let site = switch_site_around c.args.near c.args.ports.now in record {
  answer = answered c.args.self.now c.admit.new.self site c.args.packet c.args.h.now
      c.in-Some.forwarding c.answer_entry.result c.self.inside.number c.empty.result
      (ap (λ (s : SwitchValue). s.number) c.self.view_is) c.empty.ensures.value
      c.answer_entry.ensures (c.in-Some.ensures.answer site c.args.packet);
  uncached = entry_uncached c.args.self.now site c.args.packet c.args.h.now;
  after = c.admit.ensures.after;
}
