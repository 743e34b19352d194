-- How a trace is read: a line may state a move of the abstract machine, and is good if the machine
-- may take it; a line of an item that is no move is good too.
use Rattle.std.specs.Prelude.{[], if◌then◌else◌, ◌-◌, ◌==◌, ◌∷◌, ◌≡◌, ◌≤◌, List, None, Option, Some, length, option_to_list, slice_get, ℕ}
use Rattle.base.specs.Exports.{result_ok}
use Rattle.five_tuple.specs.Exports.{tuple_text_parts_round_byte}
use Rattle.update_machine.specs.Exports.{MachineDecides, MachineEndsPacket, MachineEnters, Header, Hit, Machine, PolicyFile, MachineRetires, Row, MachineSubmits, machine_policy_made_by, most_journal_versions}
use Rattle.policy_rules.specs.Exports.{policy_action_text, policy_rule_text}
use Rattle.trace_audit.specs.Told.{AuditTold, audit_told_of}
use Rattle.trace_audit.specs.Told as told

-- ---- policies

-- the file of a number, from 1, if it exists
abbrev pub trace_numbered_file : List PolicyFile → ℕ → Option PolicyFile
trace_numbered_file files file = if file == 0 then None else slice_get files (file - 1)

-- the policy that the file of this number has, or makes of the newest one, if there is one
abbrev pub audit_made_policy : List PolicyFile → ℕ → Option (List Row) → Option (List Row)
audit_made_policy files file newest = result_ok (machine_policy_made_by (trace_numbered_file files file) newest)

abbrev pub audit_latest_policy : List (List Row) → Option (List Row)
audit_latest_policy policies = slice_get policies (length policies - 1)

-- ---- states

-- what a reader knows: the machine, and the header of a packet's row that has no entry yet
pub record TraceState : Type 0 where
  pub machine : Machine
  pub pending : Option Header

-- the policy of the first file, the mark 0, no packets, and no pending header
abbrev pub first_trace_state : List PolicyFile → TraceState
first_trace_state files = record {
  machine = record {
    policies = option_to_list (audit_made_policy files 1 None);
    mark = 0;
    packets = λ _. None;
  };
  pending = None;
}

-- a decision is printed in these texts
pub record IsAuditDecisionPrinted (rule action : List ℕ) (hit : Hit) : Type 0 where
  pub of_rule : rule ≡ policy_rule_text hit.rule
  pub of_action : action ≡ policy_action_text hit.action

-- what a line says leads from one state to another
abbrev pub AuditStateFollows : List PolicyFile → TraceState → AuditTold → TraceState → Type 0
AuditStateFollows files old (told.Row header) new = new ≡ record old { pending = header }
AuditStateFollows files old (told.Entered packet) new = (header : Header) × (old.pending ≡ Some header)
    × MachineEnters old.machine packet header new.machine × (new.pending ≡ None)
AuditStateFollows files old (told.Submitted file version) new =
    MachineSubmits old.machine version (audit_made_policy files file (audit_latest_policy old.machine.policies))
    new.machine
    × (version ≤ most_journal_versions) × (new.pending ≡ old.pending)
AuditStateFollows files old (told.Retired version) new =
    MachineRetires old.machine version new.machine × (new.pending ≡ old.pending)
AuditStateFollows files old (told.Decided packet version rule action) new = (hit : Hit)
    × IsAuditDecisionPrinted rule action hit × MachineDecides old.machine packet version hit new.machine
    × (new.pending ≡ old.pending)
AuditStateFollows files old (told.Ended packet end) new =
    MachineEndsPacket old.machine packet end new.machine × (new.pending ≡ old.pending)
AuditStateFollows files old told.Nothing new = new ≡ old

-- ---- lines

-- a line with its line feed, or what follows the last line feed
pub data TraceLine : Type 0 where
  Whole : (text : List ℕ) → TraceLine
  Open : (text : List ℕ) → TraceLine

-- the lines of the parts between line feeds
abbrev pub open_trace_line : List ℕ → List TraceLine
open_trace_line [] = []
open_trace_line (byte ∷ bytes) = Open (byte ∷ bytes) ∷ []

abbrev pub trace_lines_of_parts : List (List ℕ) → List TraceLine
trace_lines_of_parts [] = []
trace_lines_of_parts (rest ∷ []) = open_trace_line rest
trace_lines_of_parts (text ∷ next ∷ parts) = Whole text ∷ trace_lines_of_parts (next ∷ parts)

unfoldable pub audit_lines_of : List ℕ → List TraceLine
audit_lines_of trace = trace_lines_of_parts (tuple_text_parts_round_byte 10 trace)

-- a good line leads from one state to another; one without its line feed is bad
abbrev pub ReadsAuditLine : List PolicyFile → TraceState → TraceLine → TraceState → Type 0
ReadsAuditLine files old (Whole text) new =
    (told : AuditTold) × (audit_told_of text ≡ Some told) × AuditStateFollows files old told new
ReadsAuditLine files old (Open text) new = ⊥

abbrev pub IsGoodAuditLine : List PolicyFile → TraceState → TraceLine → Type 0
IsGoodAuditLine files old line = (new : TraceState) × ReadsAuditLine files old line new

-- good lines, one after another
abbrev pub ReadsAllAuditLines : List PolicyFile → TraceState → List TraceLine → TraceState → Type 0
ReadsAllAuditLines files old [] new = new ≡ old
ReadsAllAuditLines files old (line ∷ lines) new =
    (middle : TraceState) × ReadsAuditLine files old line middle × ReadsAllAuditLines files middle lines new

-- all these lines are good, from the beginning on
abbrev pub AreGoodAuditLines : List PolicyFile → List TraceLine → Type 0
AreGoodAuditLines files lines = (new : TraceState) × ReadsAllAuditLines files (first_trace_state files) lines new
