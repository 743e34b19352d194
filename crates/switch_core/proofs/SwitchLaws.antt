-- The laws of one switch.
use Rattle.std.proofs.Common.{[], ◌<◌, ◌↔◌, ◌≡◌, ◌≤◌, All, Bool, IsErr, IsTrue, List, None, Option, cond, false, refl, true, ℕ, rules}
use Rattle.base.proofs.Exports.{AllPass-from_list_all, list_all-from_AllPass, nat_tests}
use Rattle.failover.specs.declared.advert.Advert.{Advert}
use Rattle.failover.specs.Exports.{first_adverts, is_failover_target_isolated, route_of}
use Rattle.failover.proofs.FailoverHeldAdverts.{held-first}
use Rattle.policy_rules.specs.declared.packet.Leg.{Leg}
use Rattle.policy_rules.specs.declared.packet.Cause.TheVariants.{NoAuthority}
use Rattle.ctrl_msg.specs.declared.message.Body.{Body}
use Rattle.ctrl_msg.specs.declared.message.Body.TheVariants.{Install, OpenAt, Stamp, Collect, CacheRule, Advertise}
use Rattle.switch_table.specs.Exports.{CacheValue}
use Rattle.switch_table.specs.declared.tables.Tables.{Tables}
use Rattle.switch_core.specs.declared.tunnel_calls.Packet.{Packet}
use Rattle.switch_core.specs.Exports.{HasSwitchAdvertUpTo, IsSwitchAfterHearing, SwitchValue, switch_after_body, are_switch_targets_isolated, switch_stuck_cause, switch_collected_to, is_switch_seek_leg, switch_obeys, switch_stamp_raised_to, switch_set_out, switch_stamped_with, switch_after_advert, switch_with_installed, switch_with_message}
use Rattle.ternary.specs.Exports.{WordValue}

-- ---- packets

pub stuck_without_route : (s : SwitchValue) (near : ℕ) (packet : Packet) (leg : Leg)
    (targets : List ℕ) → IsErr (switch_set_out s near packet leg targets) ↔
    (route_of s.database s.number targets near packet.down ≡ None)
unfolding switch_set_out
stuck_without_route s near packet leg targets = search rules

pub no_authority_left : (s : SwitchValue) (near : ℕ) (down : List ℕ) (leg : Leg) (targets : List ℕ)
    → (switch_stuck_cause s near down leg targets ≡ NoAuthority) ↔ (IsTrue (is_switch_seek_leg leg)
    × All (λ target. IsTrue (is_failover_target_isolated s.database s.number target near down)) targets)
unfolding switch_stuck_cause are_switch_targets_isolated
no_authority_left s near down leg targets =
    search (rules, AllPass-from_list_all, list_all-from_AllPass)

-- ---- adverts

pub own_first : (near : List ℕ) (count number : ℕ) → number < 64 →
    HasSwitchAdvertUpTo (first_adverts near count) number 1 1
own_first near count number below advert is = search (rules, held-first)

-- ---- messages

-- what a message may change
kept : (s : SwitchValue) (is_open : Bool) (stamp collected : ℕ) (tables : List Tables)
    (cache : CacheValue) (database : List (Option Advert))
    → s.stamp ≤ stamp → s.collected ≤ collected → IsSwitchAfterHearing s (record s {
      is_open = is_open;
      stamp = stamp;
      collected = collected;
      tables = tables;
      cache = cache;
      database = database;
    })
kept s is_open stamp collected tables cache database stamped marked = search rules

same : (s : SwitchValue) → IsSwitchAfterHearing s s
same s = search rules

either : (s one other : SwitchValue) (test : Bool) → IsSwitchAfterHearing s one → IsSwitchAfterHearing s other →
    IsSwitchAfterHearing s (cond test one other)
either s one other test left right = search rules

raised_heard : (s : SwitchValue) (is_open : Bool) (version : ℕ) →
    IsSwitchAfterHearing s (record (switch_stamp_raised_to s version) { is_open = is_open })
unfolding switch_stamp_raised_to
raised_heard s is_open version = search (rules, nat_tests)

stamped_heard : (s : SwitchValue) (version : ℕ) (touched : List WordValue) →
    IsSwitchAfterHearing s (switch_stamped_with s version touched)
unfolding switch_stamped_with
stamped_heard s version touched = search (rules, nat_tests)

heard_body : (s : SwitchValue) (number : ℕ) (body : Body) → IsSwitchAfterHearing s (switch_after_body s number body)
unfolding switch_with_installed switch_collected_to switch_after_advert
heard_body s number (Install boot tables) = search rules
heard_body s number (OpenAt boot version) = raised_heard s true version
heard_body s number (Stamp boot version touched) = stamped_heard s version touched
heard_body s number (Collect boot version) = search rules
heard_body s number (CacheRule version word rule action) = search rules
heard_body s number (Advertise advert) = search rules
heard_body s number _ = same s

pub heard_keeps : (s : SwitchValue) (number : ℕ) (body : Body) → IsSwitchAfterHearing s (switch_with_message s number body)
unfolding switch_with_message
heard_keeps s number body = either s _ _ (switch_obeys s body) (heard_body s number body) (same s)

pub not_obeyed : (s : SwitchValue) (number : ℕ) (body : Body) → switch_obeys s body ≡ false →
    switch_with_message s number body ≡ s
unfolding switch_with_message
not_obeyed s number body other = rw other refl
