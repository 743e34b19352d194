-- The refusal of a plan that follows from the refusal of one of its parts.
use Rattle.base.specs.declared.error.Failure.{Failure}
use Rattle.base.specs.declared.error.Failure.TheVariants as failure
use Rattle.cut_tree.specs.declared.tree.TooManyLeaves.{TooManyLeaves as NoTree}
use Rattle.placement.specs.declared.NoRoom.{NoRoom as NoPlacement}
use Rattle.policy_rules.specs.declared.rule_list.TooManyWords.{TooManyWords as NoRules}
use Rattle.controller.specs.declared.plan_error.PlanError.{PlanError}
use Rattle.controller.specs.declared.plan_error.PlanError.TheVariants.{TooManyWords, TooManyLeaves, NoRoom, NoMemory}

abbrev pub controller_rules_plan_cause : Failure NoRules → PlanError
controller_rules_plan_cause (failure.Refused many) = TooManyWords many.words
controller_rules_plan_cause failure.NoMemory = NoMemory

abbrev pub controller_tree_plan_cause : Failure NoTree → PlanError
controller_tree_plan_cause (failure.Refused many) = TooManyLeaves
controller_tree_plan_cause failure.NoMemory = NoMemory

abbrev pub controller_placement_plan_cause : Failure NoPlacement → PlanError
controller_placement_plan_cause (failure.Refused lack) = NoRoom lack.partition
controller_placement_plan_cause failure.NoMemory = NoMemory
