-- Readings of lines: those of some lines and of more, and that there is only one.
use Rattle.std.proofs.Common.{[], ◌++◌, ◌-◌, ◌==◌, ◌∙◌, ◌∷◌, ◌≡◌, All, Bool, Err, IfSome, List, None, Ok, Option, Result, Some, ap, cond, false, length, option_to_list, refl, slice_get, subst, sym, true, ℕ}
use Rattle.base.proofs.Exports.{All-cons, All-nil, All-push, IfSome-at_place, get_or_from_slice_get, result_ok, same_some, slice_get_within}
use Rattle.update_machine.specs.Exports.{MachineDecides, MachinePacketEnd, MachineEndsPacket, MachineEnters, Header, Hit, Inapplicable, Machine, PolicyFile, Row, MachineSubmits, machine_policy_made_by, machine_with_packet}
use Rattle.policy_rules.specs.Exports.{IsPolicy, IsSoundPolicyFile}
use Rattle.policy_rules.specs.declared.file.PolicyFile.TheVariants as file_of
use Rattle.policy_rules.proofs.PolicyRulesCallerLemmas.{IsPolicy-applied, first_match-only}
use Rattle.update_machine.specs.Machine.{Packet}
use Rattle.trace_audit.specs.Exports.{AuditStateFollows, Open, ReadsAllAuditLines, ReadsAuditLine, AuditTold, TraceLine, TraceState, Whole, first_trace_state, audit_latest_policy, audit_made_policy, trace_numbered_file}
use Rattle.trace_audit.specs.Told as told

-- ---- some lines and more

pub reads_join : (files : List PolicyFile) (old middle new : TraceState) (lines more : List TraceLine)
    → ReadsAllAuditLines files old lines middle → ReadsAllAuditLines files middle more new
    → ReadsAllAuditLines files old (lines ++ more) new
reads_join files old middle new [] more r s = subst (λ state. ReadsAllAuditLines files state more new) r s
reads_join files old middle new (line ∷ lines) more r s =
    (r.0, r.1, reads_join files r.0 middle new lines more r.2 s)

pub reads_split : (files : List PolicyFile) (old new : TraceState) (lines more : List TraceLine)
    → ReadsAllAuditLines files old (lines ++ more) new
    → (middle : TraceState) × ReadsAllAuditLines files old lines middle × ReadsAllAuditLines files middle more new
reads_split files old new [] more r = (old, refl, r)
reads_split files old new (line ∷ lines) more r =
    let w = reads_split files r.0 new lines more r.2 in (w.0, (r.0, r.1, w.1), w.2)

-- ---- policies

policy_in : (policies : List (List Row)) (place : ℕ) (rows : List Row) → All IsPolicy policies
    → slice_get policies place ≡ Some rows → IsPolicy rows
policy_in policies place rows sound e = rw (get_or_from_slice_get policies place rows rows e) at
    (sound place rows (slice_get_within policies place rows e))

-- what a file makes of a policy, or of none, is one
sound_by : (file : Option PolicyFile) (newest : Option (List Row)) (rows : List Row)
    → IfSome file IsSoundPolicyFile → IfSome newest IsPolicy → machine_policy_made_by file newest ≡ Ok rows
    → IsPolicy rows
sound_by None newest rows own sound made = absurd cc
sound_by (Some (file_of.Whole given)) newest rows own sound made =
    let same : given ≡ rows = cc made in subst IsPolicy same own
sound_by (Some (file_of.Change edits)) None rows own sound made = absurd cc
sound_by (Some (file_of.Change edits)) (Some old) rows own sound made =
    IsPolicy-applied old rows edits sound own made

file_by : (files : List PolicyFile) (file : ℕ) (zero : Bool) → All IsSoundPolicyFile files
    → IfSome (cond zero None (slice_get files (file - 1))) IsSoundPolicyFile
file_by files file true own = tt
file_by files file false own =
    IfSome-at_place IsSoundPolicyFile files (file - 1) (slice_get files (file - 1)) own refl

ok_of : (made : Result (List Row) Inapplicable) (rows : List Row) → result_ok made ≡ Some rows
    → made ≡ Ok rows
ok_of (Ok given) rows e = let same : given ≡ rows = cc in ap Ok same
ok_of (Err why) rows e = absurd cc

made_in : (files : List PolicyFile) (file : ℕ) (newest : Option (List Row)) (rows : List Row)
    → All IsSoundPolicyFile files → IfSome newest IsPolicy → audit_made_policy files file newest ≡ Some rows
    → IsPolicy rows
made_in files file newest rows own sound e =
    sound_by (trace_numbered_file files file) newest rows (file_by files file (file == 0) own) sound
    (ok_of (machine_policy_made_by (trace_numbered_file files file) newest) rows e)

-- the last of policies, if there is one
newest_sound : (policies : List (List Row)) → All IsPolicy policies
    → IfSome (audit_latest_policy policies) IsPolicy
newest_sound policies sound =
    IfSome-at_place IsPolicy policies (length policies - 1) (audit_latest_policy policies) sound refl

abbrev pub ArePolicies : TraceState → Type 0
ArePolicies state = All IsPolicy state.machine.policies

policies_stay : (old new : TraceState) → new.machine.policies ≡ old.machine.policies → ArePolicies old
    → ArePolicies new
policies_stay old new e sound = subst (All IsPolicy) (sym e) sound

follows_sound : (files : List PolicyFile) (old : TraceState) (t : AuditTold) (new : TraceState)
    → All IsSoundPolicyFile files → ArePolicies old → AuditStateFollows files old t new → ArePolicies new
follows_sound files old (told.Row header) new own sound f =
    policies_stay old new (ap (λ s. s.machine.policies) f) sound
follows_sound files old (told.Entered packet) new own sound f =
    policies_stay old new (ap (λ m. m.policies) f.2.after) sound
follows_sound files old (told.Submitted file version) new own sound f = subst (All IsPolicy)
    (sym (ap (λ m. m.policies) f.0.after)) (All-push IsPolicy old.machine.policies f.0.policy sound
    (made_in files file (audit_latest_policy old.machine.policies) f.0.policy own
    (newest_sound old.machine.policies sound) f.0.there))
follows_sound files old (told.Retired version) new own sound f =
    policies_stay old new (ap (λ m. m.policies) f.0.after) sound
follows_sound files old (told.Decided packet version rule action) new own sound f =
    policies_stay old new (ap (λ m. m.policies) f.2.after) sound
follows_sound files old (told.Ended packet end) new own sound f =
    policies_stay old new (ap (λ m. m.policies) f.0.after) sound
follows_sound files old told.Nothing new own sound f =
    policies_stay old new (ap (λ s. s.machine.policies) f) sound

-- ---- only one

state_same : (a b : TraceState) → a.machine ≡ b.machine → a.pending ≡ b.pending → a ≡ b
state_same a b m p = ap (λ (x : Machine). record { machine = x; pending = a.pending }) m
    ∙ ap (λ (x : Option Header). record { machine = b.machine; pending = x }) p

entered : Machine → ℕ → Header → Machine
entered old number header = machine_with_packet old number
    (record { header = header; entry_mark = old.mark; decision = None; end = None })

enters_one : (old : Machine) (number : ℕ) (h k : Header) (a b : Machine) → h ≡ k
    → MachineEnters old number h a → MachineEnters old number k b → a ≡ b
enters_one old number h k a b e r s = cc (r.after, e, s.after)

submits_one : (old : Machine) (version : ℕ) (named : Option (List Row)) (a b : Machine)
    → MachineSubmits old version named a → MachineSubmits old version named b → a ≡ b
submits_one old version named a b r s =
    cc (r.after, same_some r.policy s.policy named r.there s.there, s.after)

decides_one : (old : Machine) (number version : ℕ) (g h : Hit) (a b : Machine)
    → All IsPolicy old.policies → MachineDecides old number version g a → MachineDecides old number version h b
    → a ≡ b
decides_one old number version g h a b sound r s =
    let packets : r.packet ≡ s.packet = same_some r.packet s.packet _ r.entered s.entered in
    let policies : r.policy ≡ s.policy = same_some r.policy s.policy _ r.submitted s.submitted in
    let one = first_match-only r.policy r.packet.header g
    (policy_in old.policies (version - 1) r.policy sound r.submitted).distinct r.first_match in
    let other = first_match-only s.policy s.packet.header h
    (policy_in old.policies (version - 1) s.policy sound s.submitted).distinct s.first_match in
    let hits : g ≡ h = cc in
    r.after
    ∙ ap (λ (x : Packet). machine_with_packet old number (record x { decision = Some g })) packets
    ∙ ap (λ (x : Hit). machine_with_packet old number (record s.packet { decision = Some x })) hits
    ∙ sym s.after

ends_one : (old : Machine) (number : ℕ) (end : MachinePacketEnd) (a b : Machine)
    → MachineEndsPacket old number end a → MachineEndsPacket old number end b → a ≡ b
ends_one old number end a b r s =
    cc (r.after, same_some r.packet s.packet _ r.entered s.entered, s.after)

follows_one : (files : List PolicyFile) (old : TraceState) (t : AuditTold) (a b : TraceState) → ArePolicies old
    → AuditStateFollows files old t a → AuditStateFollows files old t b → a ≡ b
follows_one files old (told.Row header) a b sound r s = r ∙ sym s
follows_one files old (told.Entered packet) a b sound r s = state_same a b (enters_one old.machine
    packet r.0 s.0 a.machine b.machine (same_some r.0 s.0 _ r.1 s.1) r.2 s.2) (r.3 ∙ sym s.3)
follows_one files old (told.Submitted file version) a b sound r s =
    state_same a b (submits_one old.machine version _ a.machine b.machine r.0 s.0) (r.2 ∙ sym s.2)
follows_one files old (told.Retired version) a b sound r s =
    state_same a b (r.0.after ∙ sym s.0.after) (r.1 ∙ sym s.1)
follows_one files old (told.Decided packet version rule action) a b sound r s = state_same a b
    (decides_one old.machine packet version r.0 s.0 a.machine b.machine sound r.2 s.2)
    (r.3 ∙ sym s.3)
follows_one files old (told.Ended packet end) a b sound r s =
    state_same a b (ends_one old.machine packet end a.machine b.machine r.0 s.0) (r.1 ∙ sym s.1)
follows_one files old told.Nothing a b sound r s = r ∙ sym s

pub line_one : (files : List PolicyFile) (old : TraceState) (line : TraceLine) (a b : TraceState) → ArePolicies old
    → ReadsAuditLine files old line a → ReadsAuditLine files old line b → a ≡ b
line_one files old (Whole text) a b sound r s = follows_one files old r.0 a b sound r.2
    (subst (λ t. AuditStateFollows files old t b) (same_some s.0 r.0 _ s.1 r.1) s.2)
line_one files old (Open text) a b sound r s = absurd r

line_sound : (files : List PolicyFile) (old : TraceState) (line : TraceLine) (new : TraceState)
    → All IsSoundPolicyFile files → ArePolicies old → ReadsAuditLine files old line new → ArePolicies new
line_sound files old (Whole text) new own sound r = follows_sound files old r.0 new own sound r.2
line_sound files old (Open text) new own sound r = absurd r

pub first_sound : (files : List PolicyFile) → All IsSoundPolicyFile files → ArePolicies (first_trace_state files)
first_sound files own = by (audit_made_policy files 1 None) refl where
  by : (made : Option (List Row)) → audit_made_policy files 1 None ≡ made
      → All IsPolicy (option_to_list made)
  by None e = All-nil IsPolicy
  by (Some rows) e =
      All-cons IsPolicy rows [] (made_in files 1 None rows own tt e) (All-nil IsPolicy)

pub reads_one : (files : List PolicyFile) (old : TraceState) (lines : List TraceLine) (a b : TraceState)
    → All IsSoundPolicyFile files → ArePolicies old → ReadsAllAuditLines files old lines a → ReadsAllAuditLines files old lines b
    → a ≡ b
reads_one files old [] a b own sound r s = r ∙ sym s
reads_one files old (line ∷ lines) a b own sound r s =
    reads_one files r.0 lines a b own (line_sound files old line r.0 own sound r.1) r.2
    (subst (λ m. ReadsAllAuditLines files m lines b) (line_one files old line s.0 r.0 sound s.1 r.1) s.2)
