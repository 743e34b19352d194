-- What the calls of a switch require follows from the laws of versions, tables, boots and adverts,
-- whatever steps were taken.
use Rattle.std.specs.Prelude.{◌-◌, ◌<◌, ◌^◌, ◌≡◌, IsFalse, IsTrue, List, Some, length, ℕ}
use Rattle.update_machine.specs.Exports.{Body, Header, Item, Leg, Setting, is_up, journal_message_of, serves as serves_in, machine_message_to_switch}
use Rattle.switch_core.specs.Exports.{CanSwitchLookUp, MaySwitchEndLeg, IsSoundSwitchBody, SwitchValue, serves, switch_with_message}
use Rattle.control_laws.specs.Exports.{ControlLegEndsAt, ControlNumbersFit, ControlServingHoldVersions, ControlServingIsKnown}
use Rattle.refinement.specs.Knowing.{RefinementTablesAreKnown}
use Rattle.refinement.specs.SwitchOf.{refined_switch_of}

-- what `arrive` requires of the switch
pub record RefinementCanReceive (switch : SwitchValue) (header : Header) (leg : Leg) : Type 0 where
  pub serving : IsTrue (serves switch)
  pub stamped : CanSwitchLookUp switch
  pub authority : MaySwitchEndLeg switch header leg

-- there is a next number for its own advert, now and after it hears any message
pub record HasRefinedNextSeq (switch : SwitchValue) : Type 0 where
  pub now : switch.seq < 2 ^ 32 - 1
  pub then : (n : ℕ) (body : Body) → (switch_with_message switch n body).seq < 2 ^ 32 - 1

-- what `restart` requires of it
pub record CanRefinedSwitchRestart (switch : SwitchValue) : Type 0 where
  pub down : IsFalse switch.is_up
  pub boot : switch.boot < 2 ^ 32 - 1

pub record RefinementRequirementsHold : Type 0 where
  pub hear : (setting : Setting) (journal : List Item) (n s : ℕ) (body : Body) →
      RefinementTablesAreKnown setting journal → journal_message_of journal n ≡ Some (machine_message_to_switch s body) →
      IsSoundSwitchBody body
  pub near_changed : (setting : Setting) (journal : List Item) (s : ℕ) →
      ControlNumbersFit setting journal → s < length setting.net.switches →
      HasRefinedNextSeq (refined_switch_of setting journal s)
  pub restart : (setting : Setting) (journal : List Item) (s : ℕ) →
      ControlNumbersFit setting journal → IsFalse (is_up journal s) →
      CanRefinedSwitchRestart (refined_switch_of setting journal s)
  pub enter : (setting : Setting) (journal : List Item) (s : ℕ) →
      ControlServingHoldVersions setting journal → s < length setting.net.switches →
      CanSwitchLookUp (refined_switch_of setting journal s)
  pub arrive : (setting : Setting) (journal : List Item) (s : ℕ) (header : Header) (leg : Leg) →
      RefinementTablesAreKnown setting journal → ControlServingIsKnown journal → ControlServingHoldVersions setting journal →
      s < length setting.net.switches → IsTrue (serves_in journal s) →
      ControlLegEndsAt setting journal s header leg →
      RefinementCanReceive (refined_switch_of setting journal s) header leg
