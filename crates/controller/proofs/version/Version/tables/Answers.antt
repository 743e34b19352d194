use Rattle.std.proofs.Common.{◌∙◌, ap, arith, get_or, length}
use Rattle.base.proofs.Exports.{read_map}
use Rattle.switch_table.specs.Exports.{tables_of}
use Rattle.controller.specs.Exports.{ControllerKeptPlan}
use Rattle.controller.proofs.version.Version.tables.Goals as goal

pub returns-in-Some : goal.returns-in-Some
returns-in-Some c =
    let lookup = c.in-Some.ensures.lookup in
    let inside = c.self.inside in
    c.in_ok-tables.ensures.cases
    ∙ read_map (tables_of inside.plan.hosted inside.version) inside.made.items c.args.s _
    c.self.invariant (omega (arith, lookup.3.0, ap length c.deref.ensures.value))
    (lookup.1 ∙ ap (λ l. get_or l c.args.s c.in-Some.tables.now) c.deref.ensures.value)
    ∙ ap (λ (kept : ControllerKeptPlan). tables_of kept.plan.hosted kept.version c.args.s) c.self.view_is
