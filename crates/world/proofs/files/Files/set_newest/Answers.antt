use Rattle.std.proofs.Common.{◌∙◌, List, subst}
use Rattle.update_machine.specs.Exports.{PolicyFile}
use Rattle.world.specs.Exports.{IsWorldFileCompiled, WorldFilesKeepWhole, WorldFileMaking, world_file_or_none}
use Rattle.world.proofs.WorldKeptFiles.{own_made}
use Rattle.world.proofs.files.Files.set_newest.Goals as goal

pub invariant_of-self : goal.invariant_of-self
invariant_of-self c =
    let keeps = subst (λ (files : List PolicyFile). WorldFilesKeepWhole files c.self.inside.compiled.items
    c.forget_world_change_plans.new.compiled.items) c.deref.ensures.value c.forget_world_change_plans.ensures in record {
      sound = c.self.invariant.sound;
      many = keeps.many ∙ c.self.invariant.many;
      each = λ place compiled at. let kept = keeps.each place compiled at in
          subst (λ (making : WorldFileMaking). IsWorldFileCompiled c.self.inside.net making compiled)
          (own_made (world_file_or_none c.self.inside.files.items place) c.self.inside.newest.policy
          c.args.plan.policy kept.1)
          (c.self.invariant.each place compiled kept.0);
    }
