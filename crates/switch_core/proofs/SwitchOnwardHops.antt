-- Where a packet on its way goes on, by the next switch of its route.
use Rattle.std.proofs.Common.{◌+◌, ◌<◌, ◌≡◌, ◌≢◌, List, None, Option, Some, slice_get, sym, ℕ, rules}
use Rattle.base.proofs.Exports.{get_or_from_slice_get, slice_get_within}
use Rattle.failover.specs.Exports.{IsRouteList}
use Rattle.tunnel.specs.Exports.{TunnelValue, tunnel_marked_down, next}
use Rattle.tunnel.proofs.TunnelOnwardSwitch.{next_is_other}
use Rattle.switch_core.specs.Exports.{SwitchValue, are_switch_targets_isolated, switch_call_counted, switch_stuck_cause, switch_hop_answer, switch_found_link_down, switch_hop_onward, switch_rerouted_here}
use Rattle.switch_core.specs.declared.packet.Onward.TheVariants.{AtEnd, Next, LinkDown}

-- the next switch is another, and below 64
pub next_apart : (route : List ℕ) (place number other : ℕ) → IsRouteList route →
    slice_get route place ≡ Some number → slice_get route (place + 1) ≡ Some other →
    (other ≢ number) × (other < 64)
next_apart route place number other list here next =
    rw (get_or_from_slice_get route place number 0 here) at (next_is_other route place (Some other)
    (record { within = slice_get_within route place number here; list = list }) (sym next))

module _ (near : ℕ) where
  -- what each answer says of it, and of the link that is found down
  pub ends : (o : Option ℕ) → switch_hop_onward near o ≡ AtEnd →
      (o ≡ None) × (switch_found_link_down near o ≡ None)
  ends o is = search rules

  pub goes : (o : Option ℕ) (other : ℕ) → switch_hop_onward near o ≡ Next other →
      (o ≡ Some other) × (switch_found_link_down near o ≡ None)
  goes o other is = search rules

  pub is_down : (o : Option ℕ) (other : ℕ) → switch_hop_onward near o ≡ LinkDown other →
      (o ≡ Some other) × (switch_found_link_down near o ≡ Some other)
  is_down o other is = search rules

-- one more call changes no route
pub hop_down : (s : SwitchValue) (near : ℕ) (t : TunnelValue) (other : ℕ) →
    switch_found_link_down near (next t) ≡ Some other →
    switch_rerouted_here (switch_call_counted s) near (tunnel_marked_down t other) ≡ switch_hop_answer s near t
unfolding switch_hop_answer switch_rerouted_here switch_stuck_cause are_switch_targets_isolated
hop_down s near t other found = search rules
