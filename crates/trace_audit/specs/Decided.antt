-- What the lines of a trace say about a packet's decision, in the order of the lines.
use Rattle.std.specs.Prelude.{[], if◌then◌else◌, ◌++◌, ◌+◌, ◌-◌, ◌<◌, ◌==◌, ◌∷◌, ◌≡◌, ◌≢◌, ◌≤◌, ◌⊎◌, All, Contains, List, None, Option, Some, length, option_to_list, slice_get, ℕ, ⊤}
use Rattle.update_machine.specs.Exports.{Action, Dropped, MachinePacketEnd, Header, Hit, LeftBy, PolicyFile, Row}
use Rattle.policy_rules.specs.Exports.{IsFirstPolicyMatch}
use Rattle.policy_rules.specs.declared.policy.Action.TheVariants as action
use Rattle.trace_audit.specs.Reading.{IsAuditDecisionPrinted, TraceLine, Open, Whole, audit_latest_policy, audit_made_policy}
use Rattle.trace_audit.specs.Told.{AuditTold, audit_told_of}
use Rattle.trace_audit.specs.Told as told

-- ---- what lines say

abbrev pub with_audit_told : Option AuditTold → List AuditTold → List AuditTold
with_audit_told None more = more
with_audit_told (Some first) more = first ∷ more

-- what these lines say, in order; each good line says one thing
abbrev pub all_trace_told : List TraceLine → List AuditTold
all_trace_told [] = []
all_trace_told (Whole text ∷ lines) = with_audit_told (audit_told_of text) (all_trace_told lines)
all_trace_told (Open text ∷ lines) = all_trace_told lines

-- ---- versions

-- the policies of the versions after a line: one that submits the next version adds the policy
-- that its file makes
abbrev pub audit_policies_with : List PolicyFile → List (List Row) → AuditTold → List (List Row)
audit_policies_with files policies (told.Submitted file version) = if version == length policies + 1
    then policies ++ option_to_list (audit_made_policy files file (audit_latest_policy policies)) else policies
audit_policies_with files policies _ = policies

abbrev pub audit_policies_from : List PolicyFile → List (List Row) → List AuditTold → List (List Row)
audit_policies_from files policies [] = policies
audit_policies_from files policies (first ∷ more) =
    audit_policies_from files (audit_policies_with files policies first) more

-- the policy of the first file, and then those that these lines submit, by version
abbrev pub audit_policies_told : List PolicyFile → List AuditTold → List (List Row)
audit_policies_told files ts = audit_policies_from files (option_to_list (audit_made_policy files 1 None)) ts

-- the line retires no version above this one
abbrev pub AuditLineRetiresUpTo : ℕ → AuditTold → Type 0
AuditLineRetiresUpTo mark (told.Retired version) = version ≤ mark
AuditLineRetiresUpTo mark _ = ⊤

-- the mark after these lines: the greatest version that they retire, or 0
pub record IsTraceMark (ts : List AuditTold) (mark : ℕ) : Type 0 where
  pub greatest : All (AuditLineRetiresUpTo mark) ts
  pub retired : (mark ≡ 0) ⊎ Contains ts (told.Retired mark)

-- ---- packets

-- the line is neither a row nor an entry
abbrev pub IsAuditToldBetween : AuditTold → Type 0
IsAuditToldBetween (told.Row header) = ⊥
IsAuditToldBetween (told.Entered packet) = ⊥
IsAuditToldBetween _ = ⊤

-- the line is no entry of this packet
abbrev pub IsNoAuditEntryOf : ℕ → AuditTold → Type 0
IsNoAuditEntryOf packet (told.Entered other) = other ≢ packet
IsNoAuditEntryOf packet _ = ⊤

-- the line is no decision of this packet
abbrev pub IsNoAuditDecisionOf : ℕ → AuditTold → Type 0
IsNoAuditDecisionOf packet (told.Decided other version rule action) = other ≢ packet
IsNoAuditDecisionOf packet _ = ⊤

-- the last row is a packet's, with this header, and no packet entered since
pub record IsTraceWaiting (ts : List AuditTold) (header : Header) : Type 0 where
  pub before : List AuditTold
  pub after : List AuditTold
  pub row : ts ≡ before ++ told.Row (Some header) ∷ after
  pub last : All IsAuditToldBetween after

-- the packet entered once, after its own row with this header, under this mark
pub record TraceHasEntered (ts : List AuditTold) (packet : ℕ) (header : Header) (mark : ℕ) : Type 0 where
  pub before : List AuditTold
  pub after : List AuditTold
  pub entry : ts ≡ before ++ told.Entered packet ∷ after
  pub none_before : All (IsNoAuditEntryOf packet) before
  pub none_after : All (IsNoAuditEntryOf packet) after
  pub own_row : IsTraceWaiting before header
  pub own_mark : IsTraceMark before mark

-- the packet got one decision, with this action: the first match of its header under one version
-- that was submitted before, and is above the mark at its entry
pub record TraceHasDecision (files : List PolicyFile) (ts : List AuditTold) (packet : ℕ) (action : Action)
    : Type 0 where
  pub before : List AuditTold
  pub after : List AuditTold
  pub version : ℕ
  pub rule_text : List ℕ
  pub action_text : List ℕ
  pub decision : ts ≡ before ++ told.Decided packet version rule_text action_text ∷ after
  pub none_before : All (IsNoAuditDecisionOf packet) before
  pub none_after : All (IsNoAuditDecisionOf packet) after
  pub header : Header
  pub mark : ℕ
  pub entered : TraceHasEntered before packet header mark
  pub above_mark : mark < version
  pub policy : List Row
  pub submitted : slice_get (audit_policies_told files before) (version - 1) ≡ Some policy
  pub hit : Hit
  pub first_match : IsFirstPolicyMatch policy header hit
  pub printed : IsAuditDecisionPrinted rule_text action_text hit
  pub acts : hit.action ≡ action

-- the packet got its one decision before it ended, and none after its end
pub record IsTraceDecidedOnce (files : List PolicyFile) (before after : List AuditTold) (packet : ℕ)
    (action : Action) : Type 0 where
  pub decided : TraceHasDecision files before packet action
  pub none_later : All (IsNoAuditDecisionOf packet) after

-- a packet that the lines say is dropped, or out by a port, was decided like that
abbrev pub IsTraceJustified : List PolicyFile → List AuditTold → List AuditTold → ℕ → MachinePacketEnd → Type 0
IsTraceJustified files before after packet Dropped = IsTraceDecidedOnce files before after packet action.Drop
IsTraceJustified files before after packet (LeftBy port) =
    IsTraceDecidedOnce files before after packet (action.Out port)
IsTraceJustified files before after packet _ = ⊤

abbrev pub AreTraceEndsJustified : List PolicyFile → List TraceLine → Type 0
AreTraceEndsJustified files lines = (before after : List AuditTold) (packet : ℕ) (end : MachinePacketEnd)
    → all_trace_told lines ≡ before ++ told.Ended packet end ∷ after
    → IsTraceJustified files before after packet end
