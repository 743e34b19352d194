-- Settling: what follows from a change of what is known, stated about its result.
use Rattle.std.specs.Prelude.{if◌then◌else◌, ◌&&◌, ◌+◌, ◌<◌, ◌≡◌, ◌≤◌, Bool, IsFalse, IsTrue, List, None, Option, Some, false, map, nat_lt, slice_get, ℕ}
use Rattle.base.specs.Exports.{bit_at, from_bool, option_map_or}
use Rattle.version_update.specs.declared.record.SwitchRecord.{SwitchRecord}
use Rattle.version_update.specs.declared.marks.Settled.{Settled}
use Rattle.version_update.specs.Record.{is_member, update_joining_opens_at, opened_update_record}
use Rattle.version_update.specs.Marks.{MarksValue, update_all_have_acked, update_retired_of}

-- the new number if it rose
abbrev pub mark_rises_to : ℕ → ℕ → Option ℕ
mark_rises_to old new = if nat_lt old new then Some new else None

-- bit s of the mask is 1 exactly if there is a switch s that passes
abbrev pub MaskNamesUpdateSwitches : ℕ → (SwitchRecord → Bool) → List SwitchRecord → Type 0
MaskNamesUpdateSwitches mask passes switches = (s : ℕ)
    → bit_at mask s ≡ from_bool (option_map_or passes (slice_get switches s) false)

-- what rose, and the switches to send to
pub record VersionMarksSettlingReports (before after : MarksValue) (answer : Settled) : Type 0 where
  pub current : answer.current ≡ mark_rises_to before.current after.current
  -- a new current version is sent to the members from before
  pub stamps : MaskNamesUpdateSwitches answer.stamps
      (λ known. nat_lt before.current after.current && is_member known.phase) before.switches
  pub opens : MaskNamesUpdateSwitches answer.opens (update_joining_opens_at after.current) before.switches
  pub retired : answer.retired ≡ mark_rises_to before.retired after.retired
  -- a newly retired version is sent to all members
  pub collects : MaskNamesUpdateSwitches answer.collects
      (λ known. nat_lt before.retired after.retired && is_member known.phase) after.switches

-- from the old mark on, each member acknowledged every version up to this one, which is the last
-- version, or one after which a member stops the rise
pub record CurrentMarkRisesTo (marks : MarksValue) (current : ℕ) : Type 0 where
  pub rises : marks.current ≤ current
  pub bound : current ≤ marks.count
  pub acknowledged : (version : ℕ) → marks.current < version → version ≤ current
      → IsTrue (update_all_have_acked version marks.switches)
  pub stopped : current < marks.count → IsFalse (update_all_have_acked (current + 1) marks.switches)

-- current rises; then the joining switches that acknowledged it open; then retired is as far as
-- the members allow
pub record SettlesVersionMarks (before after : MarksValue) (answer : Settled) : Type 0 where
  pub count : after.count ≡ before.count
  pub current : CurrentMarkRisesTo before after.current
  pub switches : after.switches ≡ map (opened_update_record after.current) before.switches
  pub retired : after.retired ≡ update_retired_of after
  pub tells : VersionMarksSettlingReports before after answer
