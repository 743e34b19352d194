-- The laws of one switch: `switch_laws` of the crate ensures the record.
use Rattle.std.specs.Prelude.{if◌then◌else◌, ◌&&◌, ◌<◌, ◌==◌, ◌↔◌, ◌≡◌, ◌≤◌, All, IsErr, IsTrue, List, None, Some, false, max, nat_lt, ℕ}
use Rattle.base.specs.Exports.{option_or}
use Rattle.failover.specs.Exports.{adverts_after_hearing, first_adverts, is_failover_target_isolated, route_of}
use Rattle.failover.specs.declared.advert.Advert.{Advert}
use Rattle.policy_rules.specs.declared.packet.Leg.{Leg}
use Rattle.policy_rules.specs.declared.packet.Cause.TheVariants.{NoAuthority}
use Rattle.ctrl_msg.specs.declared.message.Body.{Body}
use Rattle.switch_table.specs.declared.tables.Tables.{Tables}
use Rattle.switch_core.specs.declared.tunnel_calls.Packet.{Packet}
use Rattle.switch_core.specs.Ends.{switch_stuck_cause, is_switch_seek_leg, switch_set_out}
use Rattle.switch_core.specs.Hearing.{switch_collected_to, switch_with_message, switch_after_advert, switch_with_installed, switch_obeys, switch_stamp_raised_to, switch_stamped_with}
use Rattle.switch_core.specs.State.{HasSwitchAdvertUpTo, SwitchValue, switch_held_tables}
use Rattle.ternary.specs.Exports.{WordValue}

-- a message changes only these fields, and lowers neither the stamp nor the collect mark
pub record IsSwitchAfterHearing (before after : SwitchValue) : Type 0 where
  pub rest : after ≡ record before {
    is_open = after.is_open;
    stamp = after.stamp;
    collected = after.collected;
    tables = after.tables;
    cache = after.cache;
    database = after.database;
  }
  pub stamp : before.stamp ≤ after.stamp
  pub collected : before.collected ≤ after.collected

pub record SwitchLaws : Type 0 where
  -- each switch may begin with the adverts with which a network begins
  pub first : (near : List ℕ) (count number : ℕ) → number < 64 →
      HasSwitchAdvertUpTo (first_adverts near count) number 1 1
  -- a packet is stuck exactly if no route leads to the targets of its leg ..
  pub stuck : (s : SwitchValue) (near : ℕ) (packet : Packet) (leg : Leg) (targets : List ℕ) →
      IsErr (switch_set_out s near packet leg targets) ↔
      (route_of s.database s.number targets near packet.down ≡ None)
  -- .. and `NoAuthority` is the cause exactly if it seeks one, and each target is isolated
  pub no_authority : (s : SwitchValue) (near : ℕ) (down : List ℕ) (leg : Leg) (targets : List ℕ) →
      (switch_stuck_cause s near down leg targets ≡ NoAuthority) ↔
      (IsTrue (is_switch_seek_leg leg)
      × All (λ target. IsTrue (is_failover_target_isolated s.database s.number target near down)) targets)
  pub after_message : (s : SwitchValue) (number : ℕ) (body : Body) →
      IsSwitchAfterHearing s (switch_with_message s number body)
  pub not_obeyed : (s : SwitchValue) (number : ℕ) (body : Body) → switch_obeys s body ≡ false →
      switch_with_message s number body ≡ s
  -- tables that arrive are kept, unless the switch has those of their version or its collect mark
  -- is at least that
  pub after_install : (s : SwitchValue) (tables : Tables) (version : ℕ) →
      switch_held_tables (switch_with_installed s tables) version
      ≡ option_or (switch_held_tables s version)
      (if (tables.version == version) && nat_lt s.collected version then Some tables else None)
  -- of the versions that the switch had, it keeps exactly those above the collect mark
  pub after_collect : (s : SwitchValue) (mark version : ℕ) →
      switch_held_tables (switch_collected_to s mark) version
      ≡ (if nat_lt (max s.collected mark) version then switch_held_tables s version else None)
  pub after_rise : (s : SwitchValue) (version : ℕ) →
      (switch_stamp_raised_to s version).stamp ≡ max s.stamp version
  pub after_stamp : (s : SwitchValue) (version : ℕ) (touched : List WordValue) →
      (switch_stamped_with s version touched).stamp ≡ max s.stamp version
  -- adverts of others are heard, and its own are ignored
  pub after_advert : (s : SwitchValue) (advert : Advert) →
      (switch_after_advert s advert).database
      ≡ (if advert.origin == s.number then s.database else adverts_after_hearing s.database advert)
