-- What a change touches, as a list of at most 16 words.
use Rattle.std.specs.Prelude.{◌++◌, ◌<◌, ◌≡◌, ◌⊎◌, List, length}
use Rattle.policy_rules.specs.Exports.{touched_policy_words}
use Rattle.policy_rules.specs.declared.amendment.Edit.{Edit}
use Rattle.policy_rules.specs.declared.policy.Row.{Row}
use Rattle.switch_table.specs.Exports.{cache_few_touched}
use Rattle.ternary.specs.Exports.{WordValue}

-- the words of the policy's rows that it removes, and of those that it adds, if they are few
abbrev pub controller_touched_few : List Row → List Edit → List WordValue
controller_touched_few rows change = cache_few_touched (touched_policy_words rows change)

-- the words that were listed are all of them, or both are too many to send
abbrev pub ControllerListsTouched : List WordValue → List WordValue → Type 0
ControllerListsTouched listed words = (listed ≡ words) ⊎ ((16 < length listed) × (16 < length words))

-- these words are listed after those that were listed before
abbrev pub ControllerListsMoreTouched : List WordValue → List WordValue → List WordValue → Type 0
ControllerListsMoreTouched before after more =
    (words : List WordValue) → ControllerListsTouched before words → ControllerListsTouched after (words ++ more)
