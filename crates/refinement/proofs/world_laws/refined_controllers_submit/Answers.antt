use Rattle.refinement.proofs.RefinedControllerPlans.{newest_in}
use Rattle.refinement.proofs.RefinedSubmissions.{submits, too_many_live, too_many_versions}
use Rattle.refinement.proofs.world_laws.refined_controllers_submit.Goals as goal

pub returns : goal.returns
returns c = record {
  taken = submits;
  live = too_many_live;
  versions = too_many_versions;
  newest = newest_in;
}
