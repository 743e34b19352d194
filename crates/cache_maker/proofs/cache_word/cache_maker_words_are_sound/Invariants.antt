use Rattle.std.proofs.Common.{All, take}
use Rattle.ternary.specs.Exports.{IsWord}
use Rattle.policy_rules.specs.declared.rules.Rule.{Rule}
use Rattle.cache_maker.proofs.cache_word.cache_maker_words_are_sound.Given as goal

abbrev pub invariant-loop-rule : goal.invariant-loop-rule
invariant-loop-rule l = All (λ (rule : Rule). IsWord rule.word) (take l.rule-index l.rules)
