-- The tables that tests use are sound: one region has all headers, and one rule decides them.
use Rattle.std.proofs.Common.{[], ◌<◌, ◌==◌, ◌^◌, ◌∙◌, ◌∷◌, ◌≡◌, Bool, IfSome, IsSomeAnd, IsTrue, List, None, Option, Some, ap, arith, cond, eq-eqb, eqb-true, false, get_or, length, lit<, map, refl, slice_get, sym, true, ℕ}
use Rattle.base.proofs.Exports.{All-one, slice_get-get_or}
use Rattle.five_tuple.specs.Exports.{header_number_of}
use Rattle.five_tuple.specs.declared.header.Header.{Header}
use Rattle.ternary.specs.Exports.{any_word, holds}
use Rattle.ternary.proofs.TernaryCallerLemmas.{any_holds, covers_reflexive}
use Rattle.policy_rules.specs.Exports.{LastPolicyRuleCovers, is_in_policy_partition}
use Rattle.policy_rules.specs.declared.packet.Leg.TheVariants.{Seek}
use Rattle.policy_rules.specs.declared.policy.Action.TheVariants.{Out}
use Rattle.policy_rules.specs.declared.rules.Partition.{Partition}
use Rattle.policy_rules.specs.declared.rules.Rule.{Rule}
use Rattle.failover.specs.declared.advert.Advert.{Advert}
use Rattle.switch_table.specs.Exports.{AreSoundSwitchTables}
use Rattle.switch_table.specs.declared.tables.PartRow.{PartRow}
use Rattle.switch_table.specs.declared.tables.Tables.{Tables}
use Rattle.switch_core.specs.Exports.{CanSwitchLookUp, MaySwitchEndLeg, SwitchStandsAtRoutePlace, SwitchValue, new_switch, switch_own_partition}
use Rattle.tunnel.specs.Exports.{IsTunnelPlaceOnRoute}

abbrev pub whole_row : PartRow
whole_row = record { region = any_word; targets = 1 ∷ [] }

abbrev whole_rule : Rule
whole_rule = record { word = any_word; rank = 0; rule = Some 100; action = Out 2 }

abbrev pub whole_part : Partition
whole_part = record { number = 0; region = any_word; rules = whole_rule ∷ [] }

pub sound_authority : (t : Tables) → t.parts ≡ whole_row ∷ [] → t.auth ≡ whole_part ∷ [] →
    AreSoundSwitchTables t
sound_authority t parts auth = record {
  one = λ header is. rw (parts, any_holds (header_number_of header)) refl;
  numbers = rw (parts, auth) (All-one (λ (part : Partition).
      slice_get (map (λ (row : PartRow). row.region) (whole_row ∷ [])) part.number
      ≡ Some part.region) whole_part refl);
  distinct = rw auth (λ i j d less within. absurd (omega arith));
  covers = rw auth (All-one LastPolicyRuleCovers whole_part
      ([], whole_rule, refl, covers_reflexive any_word));
  few_rows = rw parts (lit< tt);
  few_rules = rw auth (All-one (λ (part : Partition). length part.rules < 2 ^ 32) whole_part
      (lit< tt));
}

pub own_whole : (t : Tables) → t.auth ≡ whole_part ∷ [] → (header : Header) →
    IsSomeAnd (switch_own_partition t 0) (λ part. IsTrue (is_in_policy_partition header part))
own_whole t auth header = rw auth (any_holds (header_number_of header))

-- a switch that begins with them
pub at_authority : (t : Tables) (capacity : ℕ) (base : List (Option Advert)) →
    ((header : Header) → IsSomeAnd (switch_own_partition t 0) (λ part. IsTrue (is_in_policy_partition header part))) →
    (header : Header) → MaySwitchEndLeg (new_switch 1 capacity t base) header (Seek 1 0)
at_authority t capacity base own header = by_test (t.version == 1) where
  by_test : (test : Bool) → IfSome (cond test (Some t) None)
      (λ tables. IsSomeAnd (switch_own_partition tables 0) (λ part. IsTrue (is_in_policy_partition header part)))
  by_test true = own header
  by_test false = tt

pub looks_up : (t : Tables) (capacity : ℕ) (base : List (Option Advert)) → t.version ≡ 1 →
    CanSwitchLookUp (new_switch 1 capacity t base)
looks_up t capacity base version serving = rw (eq-eqb t.version 1 version) refl

-- a packet is at the switch that has this number
pub stands : (s : SwitchValue) (route : List ℕ) (place at number : ℕ) → IsTunnelPlaceOnRoute route place →
    at ≡ get_or route place 0 → number ≡ s.number → (at == number) ≡ true → SwitchStandsAtRoutePlace s route place
stands s route place at number on is own same = slice_get-get_or route place 0 on.within
    ∙ ap Some (sym is ∙ eqb-true at number same ∙ own)
