use Rattle.std.proofs.Common.{◌∙◌, ap, arith, subst, sym, true}
use Rattle.version_update.specs.Exports.{update_no_mark_rose}
use Rattle.controller.specs.Exports.{ControllerValue, IsSoundController, ControllerSettlesWith, controller_current_plan_touched, controller_settling_acts}
use Rattle.controller.proofs.ControllerUnheardMarks.{nothing_sent, all_kept}
use Rattle.controller.proofs.controller.Controller.unheard.Goals as goal

pub returns : goal.returns
returns c =
    let marks = c.self.inside.marks in
    let is = c.self.invariant in
    let Stay : ControllerValue → Type 0 = λ value. ControllerSettlesWith value.marks value.plans value in
    record {
      none = c.from_items.ensures ∙ c.new.ensures.items;
      idle = ap (λ (value : ControllerValue). controller_settling_acts (controller_current_plan_touched value) value.marks
          value.marks) (sym c.self.view_is) ∙ nothing_sent _ marks is.marks;
      after = subst Stay c.self.view_is (record {
        marks = (update_no_mark_rose true, c.version_mark_settling_laws.ensures.idle marks true is.marks);
        plans = sym (all_kept marks.current marks.current _ c.self.inside.versions.items
            (omega arith) is.versions);
      });
      rule = subst IsSoundController c.self.view_is is;
    }
