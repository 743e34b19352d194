use Rattle.update_machine.proofs.JournalVersionPolicies.{first_is, next_is, of_its_policy, plan_stays, policy_stays, version_kept}
use Rattle.update_machine.proofs.JournalSettings.{versions_own}
use Rattle.update_machine.proofs.laws.machine_versions_keep_policies.Goals as goal

pub returns : goal.returns
returns c = record {
  there = version_kept;
  policy = policy_stays;
  plan = plan_stays;
  of_policy = of_its_policy;
  first = first_is;
  next = next_is;
  own = versions_own;
}
