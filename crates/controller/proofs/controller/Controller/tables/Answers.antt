-- The tables are those of the plan at the version's place.
use Rattle.std.proofs.Common.{◌-◌, ◌∙◌, ◌≡◌, ◌≤◌, Some, ap, arith, get_or, subst, sym}
use Rattle.base.proofs.Exports.{IfOk-weaker}
use Rattle.switch_table.specs.Exports.{AreSoundSwitchTables}
use Rattle.controller.specs.Exports.{ControllerValue, ControllerKeptPlan, controller_kept_plan_tables}
use Rattle.controller.proofs.ControllerKeptPlans.{kept_sound, kept_tables_are, kept_there}
use Rattle.controller.proofs.controller.Controller.tables.Goals as goal
use Rattle.controller.proofs.controller.Controller.tables.Goals.{After-tables}

pub index-requires : goal.index-requires
index-requires c =
    let own : ControllerValue =
    record { marks = c.self.inside.marks; plans = c.self.inside.versions.items } in
    let there = kept_there own c.self.invariant c.args.version
    (subst (λ (w : ControllerValue). w.marks.current ≤ c.args.version) (sym c.self.view_is)
    c.requires.first)
    (subst (λ (w : ControllerValue). c.args.version ≤ w.marks.count) (sym c.self.view_is)
    c.requires.last) in
    omega (arith, there, c.current.ensures.current)

-- the plan is the one at the version's place, which is one of those that are kept
kept_is : (c : After-tables) → c.index.result.now ≡ get_or c.self.inside.versions.items
    (c.args.version - c.self.inside.marks.current) c.index.result.now
kept_is c = cc (c.index.ensures, c.current.ensures.current)

first : (c : After-tables) → c.self.inside.marks.current ≤ c.args.version
first c = subst (λ (w : ControllerValue). w.marks.current ≤ c.args.version) (sym c.self.view_is)
    c.requires.first

last : (c : After-tables) → c.args.version ≤ c.self.inside.marks.count
last c = subst (λ (w : ControllerValue). c.args.version ≤ w.marks.count) (sym c.self.view_is)
    c.requires.last

pub returns-clause-tables : goal.returns-clause-tables
returns-clause-tables c =
    let own : ControllerValue =
    record { marks = c.self.inside.marks; plans = c.self.inside.versions.items } in
    IfOk-weaker c.tables.result _ _
    (λ tables is. ap (λ w. controller_kept_plan_tables w c.args.version c.args.s) (sym c.self.view_is)
    ∙ (kept_tables_are own c.self.invariant c.args.version (first c) (last c) c.index.result.now
    c.args.s (kept_is c)) ∙ ap Some (sym is)) c.tables.ensures

pub returns-clause-sound : goal.returns-clause-sound
returns-clause-sound c =
    let own : ControllerValue =
    record { marks = c.self.inside.marks; plans = c.self.inside.versions.items } in
    let kept : ControllerKeptPlan = c.index.result.now in
    let is = kept_sound own c.self.invariant c.args.version (first c) (last c) kept (kept_is c) in
    IfOk-weaker c.tables.result _ _ (λ tables same. subst AreSoundSwitchTables (sym same)
    (c.tables_laws.ensures.sound kept.plan.policy kept.plan.hosted kept.version c.args.s is.sound
    is.covers is.few is.few_rules)) c.tables.ensures
