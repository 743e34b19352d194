-- Partitions of a policy: parts of the header space, each with the rules that decide its headers,
-- as in Yu, Rexford, Freedman and Wang, "Scalable Flow-Based Networking with DIFANE", SIGCOMM 2010.
use Rattle.std.specs.Prelude.{[], ◌++◌, ◌<◌, ◌∷◌, ◌≡◌, All, IsTrue, List, Some, count_by, length, option_map, slice_index_or, ℕ}
use Rattle.five_tuple.specs.Exports.{IsHeader}
use Rattle.five_tuple.specs.declared.header.Header.{Header}
use Rattle.ternary.specs.Exports.{WordValue, word_covers_of}
use Rattle.policy_rules.specs.Scan.{scan}
use Rattle.policy_rules.specs.RuleList.{policy_hit_of_rule}
use Rattle.policy_rules.specs.Rules.{first_policy_rule}
use Rattle.policy_rules.specs.declared.policy.Row.{Row}
use Rattle.policy_rules.specs.declared.rules.Partition.{Partition}
use Rattle.policy_rules.specs.declared.rules.Rule.{Rule}
use Rattle.policy_rules.specs.Hosted.{is_in_policy_partition}

-- partitions that are numbered from 0
abbrev pub ArePolicyPartitionsNumbered : List Partition → Type 0
ArePolicyPartitionsNumbered parts =
    (place : ℕ) (d : Partition) → place < length parts
    → (slice_index_or parts place d).number ≡ place

-- the last of the rules covers the region
abbrev pub PolicyRulesEndInCover : WordValue → List Rule → Type 0
PolicyRulesEndInCover region rules = (earlier : List Rule) × (last : Rule)
    × (rules ≡ earlier ++ last ∷ []) × IsTrue (word_covers_of last.word region)

-- the last rule of the partition covers its region
abbrev pub LastPolicyRuleCovers : Partition → Type 0
LastPolicyRuleCovers part = PolicyRulesEndInCover part.region part.rules

-- sound partitions of a policy: each header lies in exactly one region, and the first rule there
-- that holds it has the rule and the action of the policy's first match
pub record AreSoundPolicyPartitions (rows : List Row) (parts : List Partition) : Type 0 where
  pub one : (header : Header) → IsHeader header → count_by (is_in_policy_partition header) parts ≡ 1
  pub decides : (header : Header) → IsHeader header
      → All (λ part. IsTrue (is_in_policy_partition header part)
      → option_map policy_hit_of_rule (first_policy_rule part.rules header) ≡ Some (scan rows header)) parts
  pub numbers : ArePolicyPartitionsNumbered parts
