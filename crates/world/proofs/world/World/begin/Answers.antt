use Rattle.std.proofs.Common.{◌∙◌, ◌≡◌, Ok, Some, ap, sym}
use Rattle.controller.specs.Exports.{ControllerPlanValue, controller_newest_policy}
use Rattle.partition.specs.Plan.{partition_plan_of}
use Rattle.world.specs.Exports.{WorldFilesValue, world_first_file_policy}
use Rattle.world.proofs.BegunWorld.{as_begun, plan_copied, net_begun, owners_begun}
use Rattle.world.proofs.WorldKeptFiles.{first_whole}
use Rattle.refinement.proofs.RefinedUpdates.{begun_refines}
use Rattle.world.proofs.world.World.begin.Goals as goal
use Rattle.world.proofs.world.World.begin.Goals.{In_ok-plan}

-- the policy of the first file has this plan
first_is : (c : In_ok-plan) → world_first_file_policy c.args.files.items ≡ Some c.in_ok-plan.plan.policy
first_is c = cc (c.deref.ensures.value, c.world_first_policy.ensures, c.in_ok-plan.ensures.policy)

planned : (c : In_ok-plan)
    → partition_plan_of c.in_ok-plan.plan.policy c.args.net.now ≡ Ok c.in_ok-plan.plan.hosted
planned c = cc (c.in_ok-plan.ensures.policy, c.in_ok-plan.ensures.plan)

pub new-requires-clause-first : goal.new-requires-clause-first
new-requires-clause-first c = first_is (goal.at.new-requires-clause-first c).In_ok-plan
    ∙ ap (λ (plan : ControllerPlanValue). Some plan.policy) (sym c.in_ok-first.ensures.cases)

pub new-requires-clause-planned : goal.new-requires-clause-planned
new-requires-clause-planned c = plan_copied c.args.net.now c.in_ok-clone.field-0 c.in_ok-plan.plan
    c.in_ok-first.first c.in_ok-clone.ensures.cases c.in_ok-first.ensures.cases
    (planned (goal.at.new-requires-clause-planned c).In_ok-plan)

pub invariant_of-result : goal.invariant_of-result
invariant_of-result c =
    let net = c.args.net.now in
    let given = c.args.files.items in
    let plan = c.in_ok-plan.plan in
    let files = c.in_ok-files.files in
    let switches = c.in_ok-switches.switches.items in
    let controller = c.in_ok-controller.controller in
    let near = c.link_masks-near.result in
    let at = (goal.at.invariant_of-result c).In_ok-plan in
    let of_net : files.net ≡ net =
    ap (λ (f : WorldFilesValue). f.net) c.in_ok-files.ensures ∙ c.in_ok-clone.ensures.cases in
    let of_files : files.files ≡ given = ap (λ (f : WorldFilesValue). f.files) c.in_ok-files.ensures in
    let of_plan : files.newest ≡ plan.policy =
    ap (λ (f : WorldFilesValue). f.newest) c.in_ok-files.ensures
    ∙ ap (λ (plan : ControllerPlanValue). plan.policy) c.in_ok-first.ensures.cases in record {
      sound = record {
        sound = net_begun net files.net of_net c.requires.net;
        owners = owners_begun net files.net c.ports.result of_net c.ports.ensures;
      };
      refines = λ able. as_begun net given files c.in_ok-journal.journal c.new-2.result
          c.new-3.result switches controller near of_net of_files c.in_ok-journal.ensures
          c.new-2.ensures c.new-3.ensures
          (begun_refines net given plan switches controller near c.requires.net
          (first_whole given plan.policy (first_is at)) c.requires.sound c.requires.ports
          (planned at) (c.in_ok-switches.ensures plan c.in_ok-controller.ensures.first)
          c.in_ok-controller.ensures.first c.link_masks-near.ensures);
      newest = λ able. ap controller_newest_policy c.in_ok-controller.ensures.first ∙ ap Some (sym of_plan);
    }
