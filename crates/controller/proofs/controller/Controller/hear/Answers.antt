use Rattle.std.proofs.Common.{[], ◌++◌, ◌∙◌, ap, refl, subst, sym}
use Rattle.version_update.specs.Exports.{MarksValue}
use Rattle.controller.specs.Exports.{ControllerSettlesWith}
use Rattle.controller.proofs.ControllerNewestPolicy.{newest_stays}
use Rattle.controller.proofs.ControllerUnheardMarks.{is_unheard}
use Rattle.controller.proofs.controller.Controller.hear.Goals as goal

pub returns-in_default : goal.returns-in_default
returns-in_default c =
    let value = c.args.self.now in
    let is = is_unheard c.args.body.now value c.in_default.not-Hello c.in_default.not-Installed
    c.in_default.not-Stamped in
    let Settled : MarksValue → Type 0 = λ marks. ControllerSettlesWith marks value.plans value in record {
      after = subst Settled (sym is.same) c.unheard.ensures.after;
      newest = refl;
      sends = c.unheard.ensures.none ∙ sym (is.sent ∙ ap (λ l. l ++ []) c.unheard.ensures.idle);
      others = λ _. refl;
      silent = λ _. c.unheard.ensures.none;
      rule = record { controller = c.unheard.ensures.rule; switches = refl };
    }

pub returns-in-Hello-clause-newest : goal.returns-in-Hello-clause-newest
returns-in-Hello-clause-newest c = newest_stays _ c.args.self.now c.hello.new.self
    c.hello.ensures.rule.controller c.hello.ensures.after refl

pub returns-in-Installed-clause-newest : goal.returns-in-Installed-clause-newest
returns-in-Installed-clause-newest c = newest_stays _ c.args.self.now c.replied.new.self
    c.replied.ensures.rule.controller c.replied.ensures.after refl

pub returns-in-Stamped-clause-newest : goal.returns-in-Stamped-clause-newest
returns-in-Stamped-clause-newest c = newest_stays _ c.args.self.now c.replied-in-Stamped.new.self
    c.replied-in-Stamped.ensures.rule.controller c.replied-in-Stamped.ensures.after refl
