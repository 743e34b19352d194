use Rattle.std.proofs.Common.{[], ◌++◌, ◌+◌, ◌-◌, ◌∙◌, ◌∷◌, ◌≡◌, ◌≢◌, ◌≤◌, Err, List, OnErr, OnOk, Result, Some, ap, arith, inl, inr, length, refl, rules, slice_get, subst, sym, ℕ}
use Rattle.refinement.specs.Exports.{IsNextPlanRefined}
use Rattle.update_machine.specs.Exports.{Inapplicable, Item, Refused, Row, Update, machine_policy_made_by, piece, machine_touched_of, machine_update_code}
use Rattle.base.proofs.Exports.{ok_is_not_err}
use Rattle.controller.specs.Exports.{ControllerValue, ControllerPlanValue, controller_next_kept_plan, controller_submit_acts}
use Rattle.controller.specs.declared.sends.Act.{Act}
use Rattle.journal.specs.declared.item.Item.TheVariants as item
use Rattle.version_update.specs.declared.marks.SubmitError.TheVariants.{TooManyLive, TooManyVersions}
use Rattle.world.specs.Exports.{WorldBeginsStep, WorldFilesValue, WorldStepGoes, IsWorldFileCompiled, WorldPartsKeepNet, WorldFileMaking, world_file_made_at, world_setting_in}
use Rattle.world.specs.declared.parts.WorldParts.{WorldParts}
use Rattle.world_log.specs.Exports.{LogMayNote}
use Rattle.world.proofs.WorldKeptFiles.{file_there}
use Rattle.world.proofs.WorldStepClauses.{files_stay, goes_one, net_stays, none_in, nothing_goes, plane_stays}
use Rattle.world.proofs.WorldActingSteps.{goes_acting}
use Rattle.refinement.proofs.RefinedUpdates.{live_piece, newest_refines, planned_next, refused_piece, refused_refines, submitted_may, submitted_piece, submitted_refines, unapplied_next, unplanned_next, versions_piece}
use Rattle.world.proofs.parts.WorldParts.update.Goals as goal
use Rattle.world.proofs.parts.WorldParts.update.Goals.{In-Planned, in-Err-Refused-TooManyLive, in-Err-Refused-TooManyVersions}

-- what the file makes of the newest policy
abbrev made_of : WorldParts → ℕ → Result (List Row) Inapplicable
made_of self file = (world_file_made_at self.files.files self.files.newest (file - 1)).0

abbrev making_of : WorldParts → ℕ → WorldFileMaking
making_of self file = world_file_made_at self.files.files self.files.newest (file - 1)

-- as that of a file which is there
made_there : (self : WorldParts) (file : ℕ) → 1 ≤ file → file ≤ length self.files.files
    → machine_policy_made_by (slice_get self.files.files (file - 1)) (Some self.files.newest) ≡ made_of self file
made_there self file first last = ap (λ o. machine_policy_made_by o (Some self.files.newest))
    (file_there self.files.files (file - 1) (omega (arith, first, last)))

-- the update is refused by this code
refused : {T E : Type 0} {r : Result T E} {before : List Item} {row file : ℕ} (code : ℕ)
    {self : WorldParts} {files : WorldFilesValue} {controller : ControllerValue} {journal : List Item}
    → WorldBeginsStep before row (Update file) self → files ≡ self.files → controller ≡ self.controller
    → piece (world_setting_in self) before row (Update file)
    ≡ item.Row row (Update file) ∷ item.Refused file code ∷ []
    → OnOk r (journal ≡ self.log.journal ++ item.Refused file code ∷ [])
    → OnErr r (journal ≡ self.log.journal) → WorldStepGoes r before row (Update file) self (record self {
      files = files;
      log = record self.log { journal = journal };
      controller = controller;
    })
refused {row} {file} code {self} begins same stays is pushed unchanged =
    goes_one begins (files_stay same refl)
    (item.Refused file code) self.log.bag (plane_stays stays refl refl) refl (none_in _) (
      is,
      refused_refines begins.ready.refines row file begins.ready.may code is,
    ) pushed unchanged

-- ---- the policy has no plan

pub returns-in_err-code : goal.returns-in_err-code
returns-in_err-code c = λ before row begins.
    nothing_goes begins (net_stays c.in_err-code.ensures.same refl) c.from_residual.ensures.0 refl

pub returns-in-Refused : goal.returns-in-Refused
returns-in-Refused c = λ before row begins. let self = c.args.self.now in
    let file = c.args.file in
    let code = c.in-Refused.code in
    let ready = begins.ready in
    let cause = subst (IsWorldFileCompiled self.files.net (making_of self file)) c.in-Refused.is
    c.in_ok-code.ensures.compiled in
    let own = newest_refines ready.refines row (Update file) self.files.newest ready.newest in
    let there = made_there self file ready.may.0 ready.may.1 in
    let coded : machine_update_code (world_setting_in self) (before ++ item.Row row (Update file) ∷ []) file
    ≡ Some code = elim cause [
      | inl why ↦ unapplied_next self.files.net self.files.files _ file self.files.newest why.0
          ready.may.0 own.1 (there ∙ why.1) ∙ ap Some why.2
      | inr rows ↦ unplanned_next self.files.net self.files.files _ file self.files.newest rows.0
          rows.2.why ready.may.0 own.1 (there ∙ rows.1) rows.2.none ∙ ap Some rows.2.code_is
    ] in
    let is = refused_piece (world_setting_in self) before row file code coded in
    refused code begins
    c.in_ok-code.ensures.same refl is c.push.ensures.pushed c.push.ensures.unchanged

-- ---- it is submitted

-- the network and the files stay
changed_net : (self new : WorldParts) (files : WorldFilesValue) (rows : List Row)
    → new.files ≡ record files { newest = rows } → files ≡ self.files → new.ports ≡ self.ports
    → WorldPartsKeepNet self new
changed_net self new files rows changed same ports = record {
  same_net = ap (λ (f : WorldFilesValue). f.net) changed ∙ ap (λ (f : WorldFilesValue). f.net) same;
  same_files = ap (λ (f : WorldFilesValue). f.files) changed ∙ ap (λ (f : WorldFilesValue). f.files) same;
  same_ports = ports;
}

-- the plan is that of the next version
planned : (c : In-Planned) (before : List Item) (row : ℕ) → WorldBeginsStep before row
    (Update c.args.file) c.args.self.now → IsNextPlanRefined (world_setting_in c.args.self.now) before
    c.args.file c.in-Planned.plan c.in-Planned.touched
planned c before row begins =
    let self = c.args.self.now in
    let file = c.args.file in
    let ready = begins.ready in
    let made = subst (IsWorldFileCompiled self.files.net (making_of self file)) c.in-Planned.is
    c.in_ok-code.ensures.compiled in
    let own = newest_refines ready.refines row (Update file) self.files.newest ready.newest in
    planned_next self.files.net self.files.files before file self.files.newest c.in-Planned.plan
    c.in-Planned.touched ready.may.0 own.0
    (made_there self file ready.may.0 ready.may.1 ∙ made.policy) made.planned
    (made.told_is ∙ ap (λ o. machine_touched_of o (Some self.files.newest))
    (sym (file_there self.files.files (file - 1) (omega (arith, ready.may.0, ready.may.1)))))

pub returns-in_err-newest : goal.returns-in_err-newest
returns-in_err-newest c = λ before row begins. nothing_goes begins
    (net_stays c.in_ok-code.ensures.same refl) c.from_residual-in_err-newest.ensures.0 refl

pub returns-in_err-push-in-Ok : goal.returns-in_err-push-in-Ok
returns-in_err-push-in-Ok c = λ before row begins.
    nothing_goes begins (changed_net _ _ _ _ c.set_newest.ensures c.in_ok-code.ensures.same refl)
    c.from_residual-in_err-push-in-Ok.ensures.0 c.in_err-push-in-Ok.ensures.unchanged

pub note_acts-requires : goal.note_acts-requires
note_acts-requires c =
    let file = c.args.file in
    let ready = c.requires.begins.ready in
    let of_next = planned (goal.at.note_acts-requires c).In-Planned c.requires.before c.requires.row
    c.requires.begins in
    subst (LogMayNote c.args.self.now.log.bag) (sym (c.into_items.ensures ∙ c.in-Ok.ensures.sends))
    (submitted_may ready.refines c.requires.row file ready.may c.in-Planned.plan
    c.in-Planned.touched c.submit.new.self of_next (λ e. ok_is_not_err _ _ (c.in-Ok.ensures.live.1 e))
    (λ e. ok_is_not_err _ _ (c.in-Ok.ensures.versions.1 (
      λ f. ok_is_not_err _ _ (c.in-Ok.ensures.live.1 f),
      e,
    ))) c.in-Ok.ensures.after ready.room)

pub returns-in-Ok : goal.returns-in-Ok
returns-in-Ok c = λ before row begins. let self = c.args.self.now in
    let file = c.args.file in
    let ready = begins.ready in
    let of_next = planned (goal.at.returns-in-Ok c).In-Planned before row begins in
    let live : self.controller.marks.count - self.controller.marks.retired ≢ 8 =
    λ e. ok_is_not_err _ _ (c.in-Ok.ensures.live.1 e) in
    let versions : self.controller.marks.count ≢ 64 =
    λ e. ok_is_not_err _ _ (c.in-Ok.ensures.versions.1 (live, e)) in
    let new : ControllerValue = c.submit.new.self in
    let acts : List Act = controller_submit_acts self.controller.marks
    (controller_next_kept_plan self.controller c.in-Planned.plan c.in-Planned.touched) new in
    let one = item.Submitted file (self.controller.marks.count + 1) in
    let its = c.note_acts.ensures in
    goes_acting one acts c.into_items.result.items c.push-in-Ok.new.self begins (record {
      net = changed_net _ _ _ _ c.set_newest.ensures c.in_ok-code.ensures.same refl;
      newest = c.in-Ok.ensures.newest
          ∙ ap Some (sym (ap (λ (f : WorldFilesValue). f.newest) c.set_newest.ensures
          ∙ ap (λ (plan : ControllerPlanValue). plan.policy) c.in_ok-newest.ensures.cases));
    }) (none_in _)
    (submitted_piece ready.refines row file ready.may c.in-Planned.plan c.in-Planned.touched new
    of_next live versions c.in-Ok.ensures.after)
    (subst (λ v. c.push-in-Ok.new.self ≡ self.log.journal ++ item.Submitted file (v + 1) ∷ [])
    (c.count-version.ensures.count ∙ ap (λ marks. marks.count) c.marks.ensures)
    c.in_ok-push-in-Ok.ensures.pushed)
    (c.into_items.ensures ∙ c.in-Ok.ensures.sends) its.travelling its.written its.posted its.part
    (submitted_refines ready.refines row file ready.may c.in-Planned.plan c.in-Planned.touched new
    of_next live versions c.in-Ok.ensures.after)

-- ---- the marks refuse it

pub returns : goal.returns
returns c = λ before row begins. let self = c.args.self.now in
    let file = c.args.file in
    let code = c.match-this-2.code in
    let submitted = c.submit.ensures in
    let of_next = planned (goal.at.returns c).In-Planned before row begins in
    let is : (c.submit.new.self ≡ self.controller)
    × (piece (world_setting_in self) before row (Update file)
    ≡ item.Row row (Update file) ∷ item.Refused file code ∷ []) = elim c.match-this-2.branch [
      | in-Err-Refused-TooManyLive w ↦
          let live : c.submit.result ≡ Err (Refused TooManyLive) = search rules in (
            rw live at submitted.refused,
            rw w.code-is (live_piece begins.ready.refines row file c.in-Planned.plan
                c.in-Planned.touched of_next (submitted.live.0 live)),
          )
      | in-Err-Refused-TooManyVersions w ↦
          let versions : c.submit.result ≡ Err (Refused TooManyVersions) = search rules in
          let many = submitted.versions.0 versions in (
            rw versions at submitted.refused,
            rw w.code-is (versions_piece begins.ready.refines row file c.in-Planned.plan
                c.in-Planned.touched of_next many.0 many.1),
          )
    ] in
    refused code begins c.in_ok-code.ensures.same is.0 is.1 c.push-2.ensures.pushed
    c.push-2.ensures.unchanged

pub returns-in-Err-NoMemory : goal.returns-in-Err-NoMemory
returns-in-Err-NoMemory c = λ before row begins.
    nothing_goes begins (net_stays c.in_ok-code.ensures.same refl) (search rules) refl
