-- What a reader's state says of the lines before it, and so of each packet's decision.
use Rattle.base.proofs.Exports.{All-cons, All-contains, All-nil, All-push, All-tail, All-weaker, Contains-append_left, Contains-append_right, Contains-push, eqb-false, ⊤}
use Rattle.std.proofs.Common.{[], ◌++◌, ◌+◌, ◌<◌, ◌==◌, ◌∙◌, ◌∷◌, ◌≡◌, ◌≤◌, All, Bool, Contains, List, None, Option, Some, ap, append-nil, append_assoc, arith, cond, eq-eqb, eqb-true, false, inl, inr, length, option_map, option_to_list, refl, subst, sym, true, ℕ}
use Rattle.update_machine.specs.Exports.{Action, Dropped, MachinePacketEnd, MachineEndsPacket, Header, Hit, LeftBy, Lost, Machine, PolicyFile, Row, Stuck, machine_with_packet}
use Rattle.policy_rules.specs.declared.policy.Action.TheVariants as action
use Rattle.update_machine.specs.Machine.{Packet}
use Rattle.trace_audit.specs.Exports.{AreGoodAuditLines, AreTraceEndsJustified, IsNoAuditDecisionOf, IsNoAuditEntryOf, AuditStateFollows, TraceHasDecision, TraceHasEntered, IsTraceAuditVerdict, IsAuditToldBetween, IsTraceDecidedOnce, IsTraceJustified, IsTraceMark, IsTraceWaiting, Open, ReadsAllAuditLines, AuditLineRetiresUpTo, AuditTold, TraceLine, TraceState, Whole, all_trace_told, first_trace_state, audit_latest_policy, audit_made_policy, audit_policies_from, audit_policies_told, audit_policies_with}
use Rattle.trace_audit.specs.Told as told
use Rattle.trace_audit.specs.declared.trace.Verdict.{Verdict}
use Rattle.trace_audit.specs.declared.trace.Verdict.TheVariants.{Yes, No}

-- ---- one more thing told

waits_on : (ts : List AuditTold) (t : AuditTold) (header : Header) → IsAuditToldBetween t → IsTraceWaiting ts header
    → IsTraceWaiting (ts ++ t ∷ []) header
waits_on ts t header between w = record {
  before = w.before;
  after = w.after ++ t ∷ [];
  row = cc (w.row, append_assoc w.before (told.Row (Some header) ∷ w.after) (t ∷ []));
  last = All-push IsAuditToldBetween w.after t w.last between;
}

entered_on : (ts : List AuditTold) (t : AuditTold) (i : ℕ) (header : Header) (mark : ℕ) → IsNoAuditEntryOf i t
    → TraceHasEntered ts i header mark → TraceHasEntered (ts ++ t ∷ []) i header mark
entered_on ts t i header mark other e = record {
  before = e.before;
  after = e.after ++ t ∷ [];
  entry = ap (λ x. x ++ t ∷ []) e.entry ∙ append_assoc e.before (told.Entered i ∷ e.after) (t ∷ []);
  none_before = e.none_before;
  none_after = All-push (IsNoAuditEntryOf i) e.after t e.none_after other;
  own_row = e.own_row;
  own_mark = e.own_mark;
}

decided_on : (files : List PolicyFile) (ts : List AuditTold) (t : AuditTold) (i : ℕ) (action : Action)
    → IsNoAuditDecisionOf i t → TraceHasDecision files ts i action → TraceHasDecision files (ts ++ t ∷ []) i action
decided_on files ts t i action other d = record {
  before = d.before;
  after = d.after ++ t ∷ [];
  version = d.version;
  rule_text = d.rule_text;
  action_text = d.action_text;
  decision = ap (λ x. x ++ t ∷ []) d.decision
      ∙ append_assoc d.before (told.Decided i d.version d.rule_text d.action_text ∷ d.after) (t ∷ []);
  none_before = d.none_before;
  none_after = All-push (IsNoAuditDecisionOf i) d.after t d.none_after other;
  header = d.header;
  mark = d.mark;
  entered = d.entered;
  above_mark = d.above_mark;
  policy = d.policy;
  submitted = d.submitted;
  hit = d.hit;
  first_match = d.first_match;
  printed = d.printed;
  acts = d.acts;
}

mark_on : (ts : List AuditTold) (t : AuditTold) (mark : ℕ) → AuditLineRetiresUpTo mark t → IsTraceMark ts mark
    → IsTraceMark (ts ++ t ∷ []) mark
mark_on ts t mark below m = record {
  greatest = All-push (AuditLineRetiresUpTo mark) ts t m.greatest below;
  retired = elim m.retired [
    | inl none ↦ inl none
    | inr there ↦ inr (Contains-append_left ts (t ∷ []) (told.Retired mark) there)
  ];
}

-- ---- what is known

abbrev pub IsWaitingIf : List AuditTold → Option Header → Type 0
IsWaitingIf ts None = ⊤
IsWaitingIf ts (Some header) = IsTraceWaiting ts header

abbrev pub IsDecidedIf : List PolicyFile → List AuditTold → ℕ → Option Hit → Type 0
IsDecidedIf files ts i None = All (IsNoAuditDecisionOf i) ts
IsDecidedIf files ts i (Some hit) = TraceHasDecision files ts i hit.action

abbrev pub IsPacketIf : List PolicyFile → List AuditTold → ℕ → Option Packet → Type 0
IsPacketIf files ts i None = All (IsNoAuditEntryOf i) ts × All (IsNoAuditDecisionOf i) ts
IsPacketIf files ts i (Some packet) = TraceHasEntered ts i packet.header packet.entry_mark
    × IsDecidedIf files ts i packet.decision

pub record IsKnown (files : List PolicyFile) (ts : List AuditTold) (state : TraceState) : Type 0 where
  pub policies : state.machine.policies ≡ audit_policies_told files ts
  pub mark : IsTraceMark ts state.machine.mark
  pub waits : IsWaitingIf ts state.pending
  pub packets : (i : ℕ) → IsPacketIf files ts i (state.machine.packets i)

waits_on_if : (ts : List AuditTold) (t : AuditTold) (pending : Option Header) → IsAuditToldBetween t
    → IsWaitingIf ts pending → IsWaitingIf (ts ++ t ∷ []) pending
waits_on_if ts t None between w = tt
waits_on_if ts t (Some header) between w = waits_on ts t header between w

decided_on_if : (files : List PolicyFile) (ts : List AuditTold) (t : AuditTold) (i : ℕ) (o : Option Hit)
    → IsNoAuditDecisionOf i t → IsDecidedIf files ts i o → IsDecidedIf files (ts ++ t ∷ []) i o
decided_on_if files ts t i None other d = All-push (IsNoAuditDecisionOf i) ts t d other
decided_on_if files ts t i (Some hit) other d = decided_on files ts t i hit.action other d

-- neither an entry nor a decision of this packet
abbrev IsOfOther : ℕ → AuditTold → Type 0
IsOfOther i t = IsNoAuditEntryOf i t × IsNoAuditDecisionOf i t

packet_on : (files : List PolicyFile) (ts : List AuditTold) (t : AuditTold) (i : ℕ) (o : Option Packet)
    → IsOfOther i t → IsPacketIf files ts i o → IsPacketIf files (ts ++ t ∷ []) i o
packet_on files ts t i None other k =
    (All-push (IsNoAuditEntryOf i) ts t k.0 other.0, All-push (IsNoAuditDecisionOf i) ts t k.1 other.1)
packet_on files ts t i (Some p) other k = (
  entered_on ts t i p.header p.entry_mark other.0 k.0,
  decided_on_if files ts t i p.decision other.1 k.1,
)

-- a packet in the place of what was known of its number
put_by : (P : ℕ → Option Packet → Type 0) (packets : ℕ → Option Packet) (i : ℕ) (p : Packet)
    (j : ℕ) (b : Bool) → (j == i) ≡ b → P i (Some p) → ((j ≡ i → ⊥) → P j (packets j))
    → P j (cond b (Some p) (packets j))
put_by P packets i p j true e here other = subst (λ k. P k (Some p)) (sym (eqb-true j i e)) here
put_by P packets i p j false e here other = other (eqb-false j i e)

put : (P : ℕ → Option Packet → Type 0) (packets : ℕ → Option Packet) (i : ℕ) (p : Packet)
    → P i (Some p) → ((j : ℕ) → (j ≡ i → ⊥) → P j (packets j))
    → (j : ℕ) → P j (cond (j == i) (Some p) (packets j))
put P packets i p here other j = put_by P packets i p j (j == i) refl here (other j)

-- ---- marks and policies

up_to : (m n : ℕ) (t : AuditTold) → m ≤ n → AuditLineRetiresUpTo m t → AuditLineRetiresUpTo n t
up_to m n (told.Retired version) le r = omega arith
up_to m n (told.Row header) le r = tt
up_to m n (told.Entered packet) le r = tt
up_to m n (told.Submitted file version) le r = tt
up_to m n (told.Decided packet version rule action) le r = tt
up_to m n (told.Ended packet end) le r = tt
up_to m n told.Nothing le r = tt

policies_more : (files : List PolicyFile) (policies : List (List Row)) (ts : List AuditTold) (t : AuditTold)
    → audit_policies_from files policies (ts ++ t ∷ [])
    ≡ audit_policies_with files (audit_policies_from files policies ts) t
policies_more files policies [] t = refl
policies_more files policies (first ∷ ts) t =
    policies_more files (audit_policies_with files policies first) ts t

policies_on : (files : List PolicyFile) (ts : List AuditTold) (t : AuditTold) (old new : List (List Row))
    → old ≡ audit_policies_told files ts → new ≡ audit_policies_with files old t
    → new ≡ audit_policies_told files (ts ++ t ∷ [])
policies_on files ts t old new known e = e ∙ ap (λ x. audit_policies_with files x t) known
    ∙ sym (policies_more files (option_to_list (audit_made_policy files 1 None)) ts t)

-- the next version's policy is added
submits_next : (files : List PolicyFile) (policies : List (List Row)) (file version : ℕ)
    (policy : List Row) → version ≡ length policies + 1
    → audit_made_policy files file (audit_latest_policy policies) ≡ Some policy
    → policies ++ policy ∷ [] ≡ audit_policies_with files policies (told.Submitted file version)
submits_next files policies file version policy newest there =
    cc (there, eq-eqb version (length policies + 1) newest)

-- ---- a step that leaves the packets as they are, or puts one

keeps_packets : (files : List PolicyFile) (ts : List AuditTold) (t : AuditTold) (old new : ℕ → Option Packet)
    → new ≡ old → ((i : ℕ) → IsOfOther i t) → ((i : ℕ) → IsPacketIf files ts i (old i))
    → (i : ℕ) → IsPacketIf files (ts ++ t ∷ []) i (new i)
keeps_packets files ts t old new e other known i = rw e
    (packet_on files ts t i (old i) (other i) (known i))

puts_packet : (files : List PolicyFile) (ts : List AuditTold) (t : AuditTold) (old new : ℕ → Option Packet)
    (i : ℕ) (p : Packet) → new ≡ (λ j. cond (j == i) (Some p) (old j))
    → ((j : ℕ) → (j ≡ i → ⊥) → IsOfOther j t) → ((j : ℕ) → IsPacketIf files ts j (old j))
    → IsPacketIf files (ts ++ t ∷ []) i (Some p)
    → (j : ℕ) → IsPacketIf files (ts ++ t ∷ []) j (new j)
puts_packet files ts t old new i p e other known here j = rw e
    (put (IsPacketIf files (ts ++ t ∷ [])) old i p here
    (λ k apart. packet_on files ts t k (old k) (other k apart) (known k)) j)

-- ---- each thing told

row_waits : (ts : List AuditTold) (header : Option Header)
    → IsWaitingIf (ts ++ told.Row header ∷ []) header
row_waits ts None = tt
row_waits ts (Some header) =
    record { before = ts; after = []; row = refl; last = All-nil IsAuditToldBetween }

known_at : (files : List PolicyFile) (ts : List AuditTold) (packets : ℕ → Option Packet) (i : ℕ)
    (o : Option Packet) → packets i ≡ o → ((j : ℕ) → IsPacketIf files ts j (packets j))
    → IsPacketIf files ts i o
known_at files ts packets i o e known = subst (IsPacketIf files ts i) e (known i)

module _ (files : List PolicyFile) (ts : List AuditTold) (old new : TraceState) (known : IsKnown files ts old)
  where
    still_waits : (t : AuditTold) → new.pending ≡ old.pending → IsAuditToldBetween t
        → IsWaitingIf (ts ++ t ∷ []) new.pending
    still_waits t same between = rw same (waits_on_if ts t old.pending between known.waits)

    -- behind what only puts a packet
    after_put : (t : AuditTold) (i : ℕ) (p : Packet) → new.machine ≡ machine_with_packet old.machine i p
        → audit_policies_with files old.machine.policies t ≡ old.machine.policies
        → AuditLineRetiresUpTo old.machine.mark t → IsWaitingIf (ts ++ t ∷ []) new.pending
        → ((j : ℕ) → (j ≡ i → ⊥) → IsOfOther j t) → IsPacketIf files (ts ++ t ∷ []) i (Some p)
        → IsKnown files (ts ++ t ∷ []) new
    after_put t i p after same below waits other here = record {
      policies = policies_on files ts t old.machine.policies new.machine.policies known.policies
          (ap (λ (m : Machine). m.policies) after ∙ sym same);
      mark = rw after (mark_on ts t old.machine.mark below known.mark);
      waits = waits;
      packets = puts_packet files ts t old.machine.packets new.machine.packets i p
          (ap (λ (m : Machine). m.packets) after) other known.packets here;
    }

    after_row : (header : Option Header) → AuditStateFollows files old (told.Row header) new
        → IsKnown files (ts ++ told.Row header ∷ []) new
    after_row header f = subst (IsKnown files (ts ++ told.Row header ∷ [])) (sym f) (record {
      policies = policies_on files ts (told.Row header) old.machine.policies old.machine.policies
          known.policies refl;
      mark = mark_on ts (told.Row header) old.machine.mark tt known.mark;
      waits = row_waits ts header;
      packets = keeps_packets files ts (told.Row header) old.machine.packets old.machine.packets
          refl (λ i. (tt, tt)) known.packets;
    })

    after_entered : (i : ℕ) → AuditStateFollows files old (told.Entered i) new
        → IsKnown files (ts ++ told.Entered i ∷ []) new
    after_entered i f =
        let t = told.Entered i in
        let none = known_at files ts old.machine.packets i None f.2.unknown known.packets in
        after_put t i
        (record { header = f.0; entry_mark = old.machine.mark; decision = None; end = None })
        f.2.after refl tt (subst (IsWaitingIf (ts ++ t ∷ [])) (sym f.3) tt)
        (λ j apart. (λ same. apart (sym same), tt)) (
          record {
            before = ts;
            after = [];
            entry = refl;
            none_before = none.0;
            none_after = All-nil (IsNoAuditEntryOf i);
            own_row = subst (IsWaitingIf ts) f.1 known.waits;
            own_mark = known.mark;
          },
          All-push (IsNoAuditDecisionOf i) ts t none.1 tt,
        )

    after_submitted : (file version : ℕ) → AuditStateFollows files old (told.Submitted file version) new
        → IsKnown files (ts ++ told.Submitted file version ∷ []) new
    after_submitted file version f = let t = told.Submitted file version in record {
      policies = policies_on files ts t old.machine.policies new.machine.policies known.policies
          (ap (λ (m : Machine). m.policies) f.0.after
          ∙ submits_next files old.machine.policies file version f.0.policy f.0.newest f.0.there);
      mark = rw f.0.after (mark_on ts t old.machine.mark tt known.mark);
      waits = still_waits t f.2 tt;
      packets = keeps_packets files ts t old.machine.packets new.machine.packets
          (ap (λ (m : Machine). m.packets) f.0.after) (λ i. (tt, tt)) known.packets;
    }

    after_retired : (version : ℕ) → AuditStateFollows files old (told.Retired version) new
        → IsKnown files (ts ++ told.Retired version ∷ []) new
    after_retired version f =
        let t = told.Retired version in
        let rises : old.machine.mark < version = f.0.rises in record {
          policies = policies_on files ts t old.machine.policies new.machine.policies known.policies
              (ap (λ (m : Machine). m.policies) f.0.after);
          mark = subst (λ (m : Machine). IsTraceMark (ts ++ t ∷ []) m.mark) (sym f.0.after) (record {
            greatest = All-push (AuditLineRetiresUpTo version) ts t
                (All-weaker (AuditLineRetiresUpTo old.machine.mark) (AuditLineRetiresUpTo version)
                (λ x r. up_to old.machine.mark version x (omega arith) r) ts known.mark.greatest)
                (omega arith);
            retired = inr (Contains-push ts t);
          });
          waits = still_waits t f.1 tt;
          packets = keeps_packets files ts t old.machine.packets new.machine.packets
              (ap (λ (m : Machine). m.packets) f.0.after) (λ i. (tt, tt)) known.packets;
        }

    after_decided : (i version : ℕ) (rule action : List ℕ)
        → AuditStateFollows files old (told.Decided i version rule action) new
        → IsKnown files (ts ++ told.Decided i version rule action ∷ []) new
    after_decided i version rule action f =
        let t = told.Decided i version rule action in
        let d = f.2 in
        let k = known_at files ts old.machine.packets i (Some d.packet) d.entered known.packets in
        after_put t i (record d.packet { decision = Some f.0 }) d.after refl tt (still_waits t f.3 tt)
        (λ j apart. (tt, λ same. apart (sym same))) (
          entered_on ts t i d.packet.header d.packet.entry_mark tt k.0,
          record {
            before = ts;
            after = [];
            version = version;
            rule_text = rule;
            action_text = action;
            decision = refl;
            none_before = (subst (IsDecidedIf files ts i) d.undecided k.1);
            none_after = All-nil (IsNoAuditDecisionOf i);
            header = d.packet.header;
            mark = d.packet.entry_mark;
            entered = k.0;
            above_mark = d.not_retired;
            policy = d.policy;
            submitted = rw known.policies at d.submitted;
            hit = f.0;
            first_match = d.first_match;
            printed = f.1;
            acts = refl;
          },
        )

    after_ended : (i : ℕ) (end : MachinePacketEnd) → AuditStateFollows files old (told.Ended i end) new
        → IsKnown files (ts ++ told.Ended i end ∷ []) new
    after_ended i end f =
        let t = told.Ended i end in
        let e = f.0 in
        after_put t i (record e.packet { end = Some end }) e.after refl tt (still_waits t f.1 tt)
        (λ j apart. (tt, tt)) (packet_on files ts t i (Some e.packet) (tt, tt)
        (known_at files ts old.machine.packets i (Some e.packet) e.entered known.packets))

    after_nothing : AuditStateFollows files old told.Nothing new → IsKnown files (ts ++ told.Nothing ∷ []) new
    after_nothing f = subst (IsKnown files (ts ++ told.Nothing ∷ [])) (sym f) (record {
      policies = policies_on files ts told.Nothing old.machine.policies old.machine.policies
          known.policies refl;
      mark = mark_on ts told.Nothing old.machine.mark tt known.mark;
      waits = waits_on_if ts told.Nothing old.pending tt known.waits;
      packets = keeps_packets files ts told.Nothing old.machine.packets old.machine.packets
          refl (λ i. (tt, tt)) known.packets;
    })

    pub after_told : (t : AuditTold) → AuditStateFollows files old t new → IsKnown files (ts ++ t ∷ []) new
    after_told (told.Row header) f = after_row header f
    after_told (told.Entered packet) f = after_entered packet f
    after_told (told.Submitted file version) f = after_submitted file version f
    after_told (told.Retired version) f = after_retired version f
    after_told (told.Decided packet version rule action) f = after_decided packet version rule action f
    after_told (told.Ended packet end) f = after_ended packet end f
    after_told told.Nothing f = after_nothing f

-- ---- all that is told

-- what was told leads from one state to another, one thing after another
abbrev pub FollowsAll : List PolicyFile → TraceState → List AuditTold → TraceState → Type 0
FollowsAll files old [] new = new ≡ old
FollowsAll files old (t ∷ ts) new =
    (middle : TraceState) × AuditStateFollows files old t middle × FollowsAll files middle ts new

pub reads_told : (files : List PolicyFile) (old : TraceState) (lines : List TraceLine) (new : TraceState)
    → ReadsAllAuditLines files old lines new → FollowsAll files old (all_trace_told lines) new
reads_told files old [] new r = r
reads_told files old (Whole text ∷ lines) new r = rw r.1.1
    (r.0, r.1.2, reads_told files r.0 lines new r.2)
reads_told files old (Open text ∷ lines) new r = absurd r.1

follows_split : (files : List PolicyFile) (old new : TraceState) (ts more : List AuditTold)
    → FollowsAll files old (ts ++ more) new
    → (middle : TraceState) × FollowsAll files old ts middle × FollowsAll files middle more new
follows_split files old new [] more r = (old, refl, r)
follows_split files old new (t ∷ ts) more r =
    let w = follows_split files r.0 new ts more r.2 in (w.0, (r.0, r.1, w.1), w.2)

known_all : (files : List PolicyFile) (ts : List AuditTold) (old : TraceState) (more : List AuditTold) (new : TraceState)
    → FollowsAll files old more new → IsKnown files ts old → IsKnown files (ts ++ more) new
known_all files ts old [] new r known = rw (append-nil ts) (rw r known)
known_all files ts old (t ∷ more) new r known = rw (append_assoc ts (t ∷ []) more) at
    (known_all files (ts ++ t ∷ []) r.0 more new r.2 (after_told files ts old r.0 known t r.1))

pub known_first : (files : List PolicyFile) → IsKnown files [] (first_trace_state files)
known_first files = record {
  policies = refl;
  mark = record { greatest = All-nil (AuditLineRetiresUpTo 0); retired = inl refl };
  waits = tt;
  packets = λ i. (All-nil (IsNoAuditEntryOf i), All-nil (IsNoAuditDecisionOf i));
}

-- ---- a second decision

-- what has a decision of the packet isn't free of them
not_undecided : (files : List PolicyFile) (ts : List AuditTold) (i : ℕ) (a : Action)
    → TraceHasDecision files ts i a → All (IsNoAuditDecisionOf i) ts → ⊥
not_undecided files ts i a d none =
    let t = told.Decided i d.version d.rule_text d.action_text in
    let there : Contains (t ∷ d.after) t = (0, omega arith, refl) in
    All-contains (IsNoAuditDecisionOf i) ts t none
    (rw d.decision (Contains-append_right d.before (t ∷ d.after) t there)) refl

decides_other : (files : List PolicyFile) (ts : List AuditTold) (old : TraceState) (t : AuditTold) (new : TraceState)
    (i : ℕ) (a : Action) → IsKnown files ts old → TraceHasDecision files ts i a → AuditStateFollows files old t new
    → IsNoAuditDecisionOf i t
decides_other files ts old (told.Decided j version rule action) new i a known d f = λ same.
    let none : All (IsNoAuditDecisionOf j) ts = subst (IsDecidedIf files ts j) f.2.undecided
    (known_at files ts old.machine.packets j (Some f.2.packet) f.2.entered known.packets).1 in
    not_undecided files ts i a d (subst (λ (n : ℕ). All (IsNoAuditDecisionOf n) ts) same none)
decides_other files ts old (told.Row header) new i a known d f = tt
decides_other files ts old (told.Entered packet) new i a known d f = tt
decides_other files ts old (told.Submitted file version) new i a known d f = tt
decides_other files ts old (told.Retired version) new i a known d f = tt
decides_other files ts old (told.Ended packet end) new i a known d f = tt
decides_other files ts old told.Nothing new i a known d f = tt

none_later : (files : List PolicyFile) (ts : List AuditTold) (old : TraceState) (more : List AuditTold)
    (new : TraceState) (i : ℕ) (a : Action) → IsKnown files ts old → TraceHasDecision files ts i a
    → FollowsAll files old more new → All (IsNoAuditDecisionOf i) more
none_later files ts old [] new i a known d r = All-nil (IsNoAuditDecisionOf i)
none_later files ts old (t ∷ more) new i a known d r =
    let other : IsNoAuditDecisionOf i t = decides_other files ts old t r.0 i a known d r.1 in
    All-cons (IsNoAuditDecisionOf i) t more other
    (none_later files (ts ++ t ∷ []) r.0 more new i a (after_told files ts old r.0 known t r.1)
    (decided_on files ts t i a other d) r.2)

-- ---- ends

decided_as : (files : List PolicyFile) (ts : List AuditTold) (i : ℕ) (o : Option Hit) (a : Action)
    → IsDecidedIf files ts i o → option_map (λ (hit : Hit). hit.action) o ≡ Some a
    → TraceHasDecision files ts i a
decided_as files ts i None a d e = absurd cc
decided_as files ts i (Some hit) a d e =
    let same : hit.action ≡ a = cc in subst (TraceHasDecision files ts i) same d

module _ (files : List PolicyFile) (before : List AuditTold) (state : TraceState)
    (known : IsKnown files before state) (after : List AuditTold) (new : TraceState) (i : ℕ) where
  decided_once : (end : MachinePacketEnd) (a : Action) (e : MachineEndsPacket state.machine i end new.machine)
      → option_map (λ (hit : Hit). hit.action) e.packet.decision ≡ Some a
      → (last : TraceState) → FollowsAll files state (told.Ended i end ∷ after) last
      → IsTraceDecidedOnce files before after i a
  decided_once end a e may last r =
      let d : TraceHasDecision files before i a = decided_as files before i e.packet.decision a
      (known_at files before state.machine.packets i (Some e.packet) e.entered known.packets).1
      may in record {
        decided = d;
        none_later = All-tail (IsNoAuditDecisionOf i) (told.Ended i end) after
            (none_later files before state (told.Ended i end ∷ after) last i a known d r);
      }

  ends_justified : (end : MachinePacketEnd) → MachineEndsPacket state.machine i end new.machine → (last : TraceState)
      → FollowsAll files state (told.Ended i end ∷ after) last
      → IsTraceJustified files before after i end
  ends_justified Dropped e last r = decided_once Dropped action.Drop e e.may last r
  ends_justified (LeftBy port) e last r = decided_once (LeftBy port) (action.Out port) e e.may last r
  ends_justified Lost e last r = tt
  ends_justified Stuck e last r = tt

good_justified : (files : List PolicyFile) (lines : List TraceLine) → AreGoodAuditLines files lines
    → AreTraceEndsJustified files lines
good_justified files lines good = λ before after i end order.
    let all = subst (λ (ts : List AuditTold). FollowsAll files (first_trace_state files) ts good.0) order
    (reads_told files (first_trace_state files) lines good.0 good.1) in
    let w = follows_split files (first_trace_state files) good.0 before (told.Ended i end ∷ after) all in
    ends_justified files before w.0
    (known_all files [] (first_trace_state files) before w.0 w.1 (known_first files)) after w.2.0 i end
    w.2.1.0 good.0 w.2

pub verdict_justified : (files : List PolicyFile) (lines : List TraceLine) (verdict : Verdict)
    → IsTraceAuditVerdict files lines verdict → verdict ≡ Yes → AreTraceEndsJustified files lines
verdict_justified files lines Yes v e = good_justified files lines v
verdict_justified files lines (No line) v e = absurd cc
