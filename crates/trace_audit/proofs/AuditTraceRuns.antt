-- A good trace is a run: each good line is a move of the machine, or none.
use Rattle.std.proofs.Common.{[], ◌++◌, ◌∷◌, ◌≡◌, List, None, ap, refl, subst, sym}
use Rattle.five_tuple.specs.Exports.{header_of}
use Rattle.update_machine.specs.Exports.{Cached, Dropped, Exit, Item, Leaving, LeftBy, Lost, Machine, NoRoute, PolicyFile, MachineRuns, Setting, Stuck}
use Rattle.journal.specs.declared.item.Item.TheVariants as item
use Rattle.trace_audit.specs.Exports.{AreGoodAuditLines, AreTraceItems, AreTraceLineItems, AreAuditedTraceRun, AuditStateFollows, IsTraceAuditVerdict, AuditTold, TraceLine, TraceState, all_trace_told, first_trace_state}
use Rattle.trace_audit.specs.Told as told
use Rattle.trace_audit.specs.declared.trace.Verdict.{Verdict}
use Rattle.trace_audit.specs.declared.trace.Verdict.TheVariants.{Yes, No}
use Rattle.trace_audit.proofs.AuditKnownPackets.{FollowsAll, IsKnown, IsWaitingIf, after_told, known_first, reads_told}

runs_join : (setting : Setting) (old middle new : Machine) (items more : List Item)
    → MachineRuns setting old items middle → MachineRuns setting middle more new
    → MachineRuns setting old (items ++ more) new
runs_join setting old middle new [] more r s = subst (λ (m : Machine). MachineRuns setting m more new) r s
runs_join setting old middle new (item ∷ items) more r s =
    (r.0, r.1, runs_join setting r.0 middle new items more r.2 s)

-- some item of a packet that left
any_leaving : Leaving
any_leaving = record {
  packet = 0;
  header = header_of (record { src = 0; dst = 0; sport = 0; dport = 0; proto = 0 });
  version = 0;
  rule = None;
}

-- from one machine to another, on whatever network
abbrev RunsAnywhere : List PolicyFile → Machine → List Item → Machine → Type 0
RunsAnywhere files old items new =
    (setting : Setting) → setting.files ≡ files → MachineRuns setting old items new

module _ (files : List PolicyFile) where
  -- what was told is the items of a run
  follows_run : (ts : List AuditTold) (old : TraceState) (t : AuditTold) (new : TraceState) → IsKnown files ts old
      → AuditStateFollows files old t new
      → (items : List Item) × AreTraceLineItems ts t items × RunsAnywhere files old.machine items new.machine
  follows_run ts old (told.Row header) new known f = ([], refl, λ setting same. ap (λ (s : TraceState). s.machine) f)
  follows_run ts old (told.Entered packet) new known f = (
    item.Entered packet 0 f.0 ∷ [],
    (0, f.0, subst (IsWaitingIf ts) f.1 known.waits, refl),
    λ setting same. (new.machine, f.2, refl),
  )
  follows_run ts old (told.Submitted file version) new known f = (
    item.Submitted file version ∷ [],
    refl,
    λ setting same. (new.machine, rw same f.0, refl),
  )
  follows_run ts old (told.Retired version) new known f =
      (item.Retired version ∷ [], refl, λ setting same. (new.machine, f.0, refl))
  follows_run ts old (told.Decided packet version rule action) new known f = (
    item.Decided packet version f.0.rule f.0.action (Cached 0) ∷ [],
    (f.0, Cached 0, f.1, refl),
    λ setting same. (new.machine, f.2, refl),
  )
  follows_run ts old (told.Ended packet Dropped) new known f =
      (item.Dropped packet ∷ [], refl, λ setting same. (new.machine, f.0, refl))
  follows_run ts old (told.Ended packet (LeftBy port)) new known f = (
    item.Left packet port any_leaving ∷ [],
    (any_leaving, refl),
    λ setting same. (new.machine, f.0, refl),
  )
  follows_run ts old (told.Ended packet Lost) new known f =
      (item.Lost packet ∷ [], refl, λ setting same. (new.machine, f.0, refl))
  follows_run ts old (told.Ended packet Stuck) new known f = (
    item.Stuck packet 0 NoRoute (Exit 0) [] ∷ [],
    (0, NoRoute, Exit 0, [], refl),
    λ setting same. (new.machine, f.0, refl),
  )
  follows_run ts old told.Nothing new known f = ([], refl, λ setting same. ap (λ (s : TraceState). s.machine) f)

  told_run : (ts : List AuditTold) (old : TraceState) (more : List AuditTold) (new : TraceState) → IsKnown files ts old
      → FollowsAll files old more new
      → (items : List Item) × AreTraceItems ts more items × RunsAnywhere files old.machine items new.machine
  told_run ts old [] new known r = ([], refl, λ setting same. ap (λ (s : TraceState). s.machine) r)
  told_run ts old (t ∷ more) new known r =
      let first = follows_run ts old t r.0 known r.1 in
      let others = told_run (ts ++ t ∷ []) r.0 more new (after_told files ts old r.0 known t r.1) r.2 in (
        first.0 ++ others.0,
        (first.0, others.0, refl, first.1, others.1),
        λ setting same. runs_join setting old.machine r.0.machine new.machine first.0 others.0
            (first.2 setting same) (others.2 setting same),
      )

good_run : (files : List PolicyFile) (lines : List TraceLine) → AreGoodAuditLines files lines → AreAuditedTraceRun files lines
good_run files lines good =
    let w = told_run files [] (first_trace_state files) (all_trace_told lines) good.0 (known_first files)
    (reads_told files (first_trace_state files) lines good.0 good.1) in record {
      moves = w.0;
      told = w.1;
      run = λ setting same. (
        good.0.machine,
        subst (λ (all : List PolicyFile). MachineRuns setting (first_trace_state all).machine w.0
            good.0.machine) (sym same) (w.2 setting same),
      );
    }

pub verdict_run : (files : List PolicyFile) (lines : List TraceLine) (verdict : Verdict)
    → IsTraceAuditVerdict files lines verdict → verdict ≡ Yes → AreAuditedTraceRun files lines
verdict_run files lines Yes v e = good_run files lines v
verdict_run files lines (No line) v e = absurd cc
