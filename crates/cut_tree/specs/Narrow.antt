-- Narrowing a list of rules to a part of the header space, as Yu, Rexford, Freedman and Wang,
-- "Scalable Flow-Based Networking with DIFANE", SIGCOMM 2010, cut the rules for their switches.
use Rattle.std.specs.Prelude.{[], if◌then◌else◌, ◌∷◌, Bool, List, filter, map}
use Rattle.ternary.specs.Exports.{WordValue, word_covers_of, meeting_word, word_meets}
use Rattle.policy_rules.specs.declared.rules.Rule.{Rule}

-- the list up to and including the first that passes
abbrev pub cut_narrowed_up_to_first : {X : Type 0} → (X → Bool) → List X → List X
cut_narrowed_up_to_first passes [] = []
cut_narrowed_up_to_first passes (x ∷ xs) = x ∷ (if passes x then [] else cut_narrowed_up_to_first passes xs)

abbrev pub cut_rule_meets_region : WordValue → Rule → Bool
cut_rule_meets_region region rule = word_meets rule.word region

abbrev pub cut_rule_covers_region : WordValue → Rule → Bool
cut_rule_covers_region region rule = word_covers_of rule.word region

-- the rule for only those of its headers that are in the region
unfoldable pub cut_narrowed_rule : WordValue → Rule → Rule
cut_narrowed_rule region rule = record rule { word = meeting_word rule.word region }

-- the rules that meet the region, each cut down to it, up to and including the first that covers it
unfoldable pub narrow : List Rule → WordValue → List Rule
narrow rules region =
    map (cut_narrowed_rule region) (cut_narrowed_up_to_first (cut_rule_covers_region region)
    (filter (cut_rule_meets_region region) rules))
