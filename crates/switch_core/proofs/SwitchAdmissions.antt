-- What the switch that counted the call returns for a packet before a route is taken.
use Rattle.std.proofs.Common.{◌≡◌, List, None, Option, Some, false, option_map, refl, true, ℕ, rules}
use Rattle.failover.specs.Exports.{no_failover_links}
use Rattle.five_tuple.specs.declared.header.Header.{Header}
use Rattle.switch_core.specs.Exports.{SwitchAnswer, Answered, IsSwitchLookupForwarding, SwitchSite, SwitchValue, switch_admitted, switch_arrival_by_forwarding, are_switch_targets_isolated, switch_call_counted, switch_stuck_cause, enter_answer, switch_entered_with, switch_incoming_packet, switch_leave_by_port, switch_looked_up, switch_next_of, switch_packet_to_look_up, serves, switch_set_out}
use Rattle.switch_core.specs.declared.tunnel_calls.Entered.{Entered}
use Rattle.switch_core.specs.declared.tunnel_calls.Packet.{Packet}
use Rattle.switch_core.specs.declared.forwarding.Forwarding.{Forwarding}
use Rattle.switch_core.specs.declared.forwarding.Forwarding.TheVariants.{Out, Decided, Seek}
use Rattle.switch_core.proofs.SwitchArrivals.{entry_by}

-- one more call changes no answer
pub answer_counted : (s after : SwitchValue) (site : SwitchSite) (packet : Packet) (forwarding : Forwarding) →
    after ≡ switch_call_counted s → switch_arrival_by_forwarding after site packet forwarding ≡ switch_arrival_by_forwarding s site packet forwarding
unfolding switch_next_of switch_leave_by_port switch_set_out switch_stuck_cause are_switch_targets_isolated
answer_counted s after site packet forwarding is = cc (is, by_forwarding forwarding) where
  by_forwarding : (forwarding : Forwarding) →
      switch_arrival_by_forwarding (switch_call_counted s) site packet forwarding ≡ switch_arrival_by_forwarding s site packet forwarding
  by_forwarding (Out port) = refl
  by_forwarding (Decided decision word) = refl
  by_forwarding (Seek leg targets) = refl

module _ (s after : SwitchValue) (site : SwitchSite) (number : ℕ) (header : Header)
    (forwarding : Forwarding) where
  -- what is returned for a packet that enters at a switch that serves
  pub was_admitted : (ingress : ℕ) → after ≡ switch_call_counted s → serves s ≡ true → ingress ≡ s.number →
      switch_arrival_by_forwarding s site (switch_packet_to_look_up number header ingress no_failover_links) forwarding
      ≡ Answered (switch_looked_up s site (switch_packet_to_look_up number header ingress no_failover_links)) →
      Some (switch_arrival_by_forwarding after site (switch_incoming_packet s number header) forwarding)
      ≡ option_map Answered (switch_admitted s site (switch_incoming_packet s number header))
  unfolding switch_admitted
  was_admitted ingress is serving here looked = search (rules, answer_counted, entry_by)

  -- and what is answered then
  pub answered : (result : Entered) (ingress : ℕ) (down : List ℕ)
      → ingress ≡ s.number → down ≡ no_failover_links
      → ((answer : SwitchAnswer) → switch_arrival_by_forwarding after site (switch_packet_to_look_up number header ingress down)
      forwarding ≡ Answered answer → result ≡ switch_entered_with answer)
      → Some (switch_arrival_by_forwarding after site (switch_incoming_packet s number header) forwarding)
      ≡ option_map Answered (switch_admitted s site (switch_incoming_packet s number header))
      → result ≡ enter_answer s site (switch_incoming_packet s number header)
  answered result ingress down here none is = search rules

-- of a packet that enters there is a lookup
pub by_lookup : (s : SwitchValue) (site : SwitchSite) (packet : Packet) (forwarding : Forwarding)
    (answer : Option SwitchAnswer) →
    Some (switch_arrival_by_forwarding s site packet forwarding) ≡ option_map Answered answer → IsSwitchLookupForwarding forwarding
by_lookup s site packet forwarding answer is = search rules

-- at a switch that doesn't serve
pub not_admitted : (s : SwitchValue) (site : SwitchSite) (packet : Packet) → serves s ≡ false →
    None ≡ option_map Answered (switch_admitted s site packet)
not_admitted s site packet closed = cc (entry_by s site packet false closed)
