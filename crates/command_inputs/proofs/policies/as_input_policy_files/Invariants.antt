use Rattle.std.proofs.Common.{◌≡◌, map}
use Rattle.policy_rules.specs.declared.file.PolicyFile.TheVariants.{Whole}
use Rattle.command_inputs.proofs.policies.as_input_policy_files.Given as goal

abbrev pub invariant-loop-policy : goal.invariant-loop-policy
invariant-loop-policy l = l.files.items ≡ map Whole l.yielded
