use Rattle.std.proofs.Common.{◌++◌, ◌≡◌, map}
use Rattle.policy_rules.specs.Exports.{word_of_policy_row}
use Rattle.policy_rules.proofs.words.push_policy_source_words.Given as goal

abbrev pub invariant-loop-destination : goal.invariant-loop-destination
invariant-loop-destination l =
    l.words.items ≡ l.initial.words.items ++ map (word_of_policy_row l.row l.source) l.yielded
