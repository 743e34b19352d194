use Rattle.five_tuple.specs.Exports.{header_number_of}
use Rattle.policy_rules.specs.Exports.{is_held_by_policy_rule}
use Rattle.policy_rules.proofs.rules.first_hit.Goals as goal
use Rattle.base.proofs.Exports.{find-position}

pub returns-clause-rule : goal.returns-clause-rule
returns-clause-rule c = rw (c.policy_rule_place.ensures, c.number.ensures.number)
    (find-position (is_held_by_policy_rule (header_number_of c.args.header.now)) c.args.rules.now)
