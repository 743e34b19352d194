use Rattle.std.proofs.Common.{◌∙◌, ap, map, zip}
use Rattle.switch_table.specs.Exports.{switch_table_part_of}
use Rattle.controller.proofs.ControllerCompiledPlans.{retargeted_leads, retargeted_sound}
use Rattle.controller.proofs.plan.Plan.with_targets.Goals as goal

pub new-requires-clause-sound : goal.new-requires-clause-sound
new-requires-clause-sound c = rw (
  c.deref.ensures.value,
  c.in_ok-parts.ensures,
  c.hosted.ensures.hosted,
  c.in_ok-policy.ensures.cases,
  c.policy.ensures,
)
    (retargeted_sound c.args.self.policy c.args.self.hosted c.args.targets.items c.requires
    c.hosted.ensures.sound)

pub returns-clause-hosted : goal.returns-clause-hosted
returns-clause-hosted c = c.in_ok-plan.ensures.hosted ∙ ap (λ parts. zip parts c.deref.result.now)
    (c.in_ok-parts.ensures ∙ ap (map switch_table_part_of) c.hosted.ensures.hosted)
    ∙ ap (zip (map switch_table_part_of c.args.self.hosted)) c.deref.ensures.value

pub returns-clause-leads : goal.returns-clause-leads
returns-clause-leads c = λ some. rw (returns-clause-hosted c) (retargeted_leads c.args.self.policy
    c.args.self.hosted c.args.targets.items c.requires c.hosted.ensures.sound some)
