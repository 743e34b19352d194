-- Cache rules that decide as the policy of their version does.
use Rattle.std.specs.Prelude.{◌≤◌, IsTrue, List, Option, ℕ}
use Rattle.five_tuple.specs.Exports.{IsHeader, header_number_of}
use Rattle.update_machine.specs.Exports.{Action, CacheEntry, Header, Item, Setting, journal_current_mark, machine_policy_at}
use Rattle.policy_rules.specs.Exports.{IsFirstPolicyMatch}
use Rattle.ternary.specs.Exports.{WordValue, holds}

-- the version is at most the current one, and the rule is the first match in its policy of each
-- header of the word
pub record IsRightPacketRule (setting : Setting) (journal : List Item) (version : ℕ) (word : WordValue)
    (rule : Option ℕ) (action : Action) : Type 0 where
  pub known : 1 ≤ version
  pub current : version ≤ journal_current_mark journal
  pub decides : (header : Header) → IsHeader header → IsTrue (holds word (header_number_of header)) →
      IsFirstPolicyMatch (machine_policy_at setting journal version) header
      (record { rule = rule; action = action })

-- the cache entry is a right rule
abbrev pub IsRightPacketCacheEntry : Setting → List Item → CacheEntry → Type 0
IsRightPacketCacheEntry setting journal entry =
    IsRightPacketRule setting journal entry.version entry.word entry.rule entry.action
