-- The verdict on a whole trace, as far as it was read.
use Rattle.std.proofs.Common.{[], ◌++◌, ◌+◌, ◌-◌, ◌==◌, ◌↔◌, ◌∙◌, ◌∷◌, ◌≡◌, All, List, ap, append-nil, append_assoc, arith, drop, eqb-true, false, length, length-append, min, refl, subst, sym, take, take-append-drop, take_at, true, ℕ}
use Rattle.policy_rules.specs.Exports.{IsSoundPolicyFile}
use Rattle.update_machine.specs.Exports.{PolicyFile}
use Rattle.trace_audit.specs.Exports.{AreGoodAuditLines, IsTraceAuditVerdict, IsFirstBadAuditLine, ReadsAllAuditLines, ReadsAuditLine, TraceLine, TraceState, first_trace_state, audit_lines_of}
use Rattle.trace_audit.specs.declared.trace.Verdict.{Verdict}
use Rattle.trace_audit.specs.declared.trace.Verdict.TheVariants.{Yes, No}
use Rattle.trace_audit.proofs.AuditLineReadings.{first_sound, reads_join, reads_one, reads_split}

-- the lines of a good trace's front are good
good_front : (files : List PolicyFile) (lines more : List TraceLine) → AreGoodAuditLines files (lines ++ more)
    → AreGoodAuditLines files lines
good_front files lines more good =
    let w = reads_split files (first_trace_state files) good.0 lines more good.1 in (w.0, w.1)

pub verdict_exact : (files : List PolicyFile) (lines : List TraceLine) (verdict : Verdict)
    → IsTraceAuditVerdict files lines verdict → (verdict ≡ Yes) ↔ AreGoodAuditLines files lines
verdict_exact files lines Yes v = (λ _. v, λ _. refl)
verdict_exact files lines (No line) v = (
  λ e. absurd cc,
  λ good. absurd (v.1.bad (good_front files (take v.0 lines) (drop v.0 lines)
      (subst (AreGoodAuditLines files) (sym (take-append-drop v.0 lines)) good))),
)

-- ---- so far

-- the lines before what is left were good and led to this state, and so many were counted
pub record IsSoFar (files : List PolicyFile) (trace rest : List ℕ) (line : ℕ) (state : TraceState) : Type 0 where
  pub done : List TraceLine
  pub lines : audit_lines_of trace ≡ done ++ audit_lines_of rest
  pub counted : line ≡ min (length done) 4294967295
  pub read : ReadsAllAuditLines files (first_trace_state files) done state

first_bad : (files : List PolicyFile) (state : TraceState) (done more : List TraceLine) (line : TraceLine)
    → All IsSoundPolicyFile files → ReadsAllAuditLines files (first_trace_state files) done state
    → ((other : TraceState) → ReadsAuditLine files state line other → ⊥)
    → IsFirstBadAuditLine files (done ++ line ∷ more) (length done + 1)
first_bad files state done more line own read bad =
    let whole : (done ++ line ∷ []) ++ more ≡ done ++ line ∷ more =
    append_assoc done (line ∷ []) more in
    let with_it : take (length done + 1) (done ++ line ∷ more) ≡ done ++ line ∷ [] =
    subst (λ xs. take (length done + 1) xs ≡ done ++ line ∷ []) whole
    (take_at (done ++ line ∷ []) more (length done + 1) (length-append done (line ∷ []))) in
    record {
      some = omega arith;
      there = omega (arith, length-append done (line ∷ more));
      before = subst (AreGoodAuditLines files)
          (sym (take_at done (line ∷ more) (length done + 1 - 1) (omega arith))) (state, read);
      bad = λ good. let g = subst (AreGoodAuditLines files) with_it good in
          let w = reads_split files (first_trace_state files) g.0 done (line ∷ []) g.1 in
          bad w.2.0 (subst (λ s. ReadsAuditLine files s line w.2.0) (reads_one files (first_trace_state files)
          done w.0 state own (first_sound files own) w.1 read) w.2.1);
    }

pub bad_here : (files : List PolicyFile) (trace rest : List ℕ) (line : ℕ) (state : TraceState)
    (this : TraceLine) (more : List TraceLine) → All IsSoundPolicyFile files → IsSoFar files trace rest line state
    → audit_lines_of rest ≡ this ∷ more → ((other : TraceState) → ReadsAuditLine files state this other → ⊥)
    → (number : ℕ) → number ≡ min (line + 1) 4294967295
    → IsTraceAuditVerdict files (audit_lines_of trace) (No number)
bad_here files trace rest line state this more own so_far e bad number counted =
    let had : line ≡ min (length so_far.done) 4294967295 = so_far.counted in (
      length so_far.done + 1,
      subst (λ xs. IsFirstBadAuditLine files xs (length so_far.done + 1))
          (sym (so_far.lines ∙ ap (λ xs. so_far.done ++ xs) e))
          (first_bad files state so_far.done more this own so_far.read bad),
      omega arith,
    )

pub good_here : (files : List PolicyFile) (trace rest next : List ℕ) (line : ℕ) (old new : TraceState)
    (this : TraceLine) → IsSoFar files trace rest line old → audit_lines_of rest ≡ this ∷ audit_lines_of next
    → ReadsAuditLine files old this new → (number : ℕ) → number ≡ min (line + 1) 4294967295
    → IsSoFar files trace next number new
good_here files trace rest next line old new this so_far e good number counted =
    let had : line ≡ min (length so_far.done) 4294967295 = so_far.counted in record {
      done = so_far.done ++ this ∷ [];
      lines = cc (so_far.lines, e, append_assoc so_far.done (this ∷ []) (audit_lines_of next));
      counted = omega (arith, length-append so_far.done (this ∷ []));
      read = reads_join files (first_trace_state files) old new so_far.done (this ∷ []) so_far.read
          (new, good, refl);
    }

pub some_left : (rest : List ℕ) → (length rest == 0) ≡ false → rest ≡ [] → ⊥
some_left [] e none = absurd cc
some_left (byte ∷ rest) e none = absurd cc

pub nil_left : (rest : List ℕ) → (length rest == 0) ≡ true → rest ≡ []
nil_left [] e = refl
nil_left (byte ∷ rest) e = absurd (omega (arith, eqb-true _ _ e))

pub all_good : (files : List PolicyFile) (trace : List ℕ) (line : ℕ) (state : TraceState)
    → audit_lines_of [] ≡ [] → IsSoFar files trace [] line state → AreGoodAuditLines files (audit_lines_of trace)
all_good files trace line state none so_far =
    let lines = so_far.lines ∙ ap (λ xs. so_far.done ++ xs) none ∙ append-nil so_far.done in
    subst (AreGoodAuditLines files) (sym lines) (state, so_far.read)
