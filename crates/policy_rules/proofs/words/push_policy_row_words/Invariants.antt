use Rattle.std.proofs.Common.{◌++◌, ◌≡◌, flat_map, map}
use Rattle.five_tuple.specs.Exports.{port_range_cover_of}
use Rattle.policy_rules.specs.Exports.{word_of_policy_row}
use Rattle.policy_rules.proofs.words.push_policy_row_words.Given as goal

abbrev pub invariant-loop-source : goal.invariant-loop-source
invariant-loop-source l = l.words.items ≡ l.initial.words.items
    ++ flat_map (λ source. map (word_of_policy_row l.row source) (port_range_cover_of l.row.dport)) l.yielded
