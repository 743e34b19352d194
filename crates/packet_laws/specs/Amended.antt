-- An amendment changes only what it touches: a header that none of its rows matches keeps its
-- first match, which decides each packet with that header, under the version before or the new
-- one. When a `Stamp` raises a switch to the very next version, the cache keeps each rule that the
-- amendment doesn't touch, unless an entry of that version already has the rule's word.
use Rattle.std.specs.Prelude.{[], if◌then◌else◌, ◌++◌, ◌+◌, ◌<◌, ◌||◌, ◌∷◌, ◌≡◌, ◌⊎◌, All, Any, Bool, Contains, IsFalse, List, Ok, Some, filter, map, nat_le, ℕ}
use Rattle.update_machine.specs.Exports.{CacheEntry, Decision, Edit, Header, Hit, Item, Row, Setting, Stamp, journal_body_to_switch, journal_cache_of, journal_decision_of, journal_packet_header, machine_policy_in, journal_stamp_of, machine_touched_by}
use Rattle.five_tuple.specs.Exports.{header_fields_of}
use Rattle.policy_rules.specs.Exports.{IsFirstPolicyMatch, policy_change_applied, policy_row_matches, touched_policy_rows}
use Rattle.switch_table.specs.Exports.{is_cache_entry_carried, cache_word_meets_touched, cache_entry_under}
use Rattle.ternary.specs.Exports.{WordValue}
use Rattle.journal.specs.declared.item.Item.TheVariants as item
use Rattle.packet_laws.specs.Rules.{IsRightPacketCacheEntry}

-- ---- headers

-- a change makes the policy of the next version from this version's, and no row that the change
-- removes or adds matches the header
pub record ChangeLeavesPacketHeader (setting : Setting) (journal : List Item) (version : ℕ) (header : Header)
    : Type 0 where
  pub rows : List Row
  pub change : List Edit
  pub changed : List Row
  pub policy : machine_policy_in setting journal version ≡ Some rows
  pub next : machine_policy_in setting journal (version + 1) ≡ Some changed
  pub makes : policy_change_applied rows change ≡ Ok changed
  pub apart : All (λ row. IsFalse (policy_row_matches row (header_fields_of header))) (touched_policy_rows rows change)

-- the version has a policy, and this is the header's first match in it
pub record IsPacketMatchUnder (setting : Setting) (journal : List Item) (version : ℕ) (header : Header)
    (hit : Hit) : Type 0 where
  pub rows : List Row
  pub policy : machine_policy_in setting journal version ≡ Some rows
  pub first_match : IsFirstPolicyMatch rows header hit

-- the rule and the action of a decision
abbrev pub packet_decision_hit : Decision → Hit
packet_decision_hit decision = record { rule = decision.rule; action = decision.action }

-- one rule and its action are the first match of the header under this version and the next one;
-- and each packet with this header that either of them decided got that rule and that action
pub record ArePacketsDecidedAlike (setting : Setting) (journal : List Item) (version : ℕ)
    (header : Header) : Type 0 where
  pub hit : Hit
  pub before : IsPacketMatchUnder setting journal version header hit
  pub after : IsPacketMatchUnder setting journal (version + 1) header hit
  pub decided : (packet : ℕ) (decision : Decision) → journal_packet_header journal packet ≡ Some header
      → journal_decision_of journal packet ≡ Some decision
      → (decision.version ≡ version) ⊎ (decision.version ≡ version + 1) → packet_decision_hit decision ≡ hit

-- this is true of each change and each header, whatever else is in the journal
abbrev pub ChangesLeaveOtherPackets : Setting → List Item → Type 0
ChangesLeaveOtherPackets setting journal = (version : ℕ) (header : Header)
    → ChangeLeavesPacketHeader setting journal version header
    → ArePacketsDecidedAlike setting journal version header

-- ---- cache rules

-- the cache has a rule of this version with the entry's word, and the rule decides each header of
-- the word as the version's policy does
abbrev pub CacheHasPacketEntryUnder : Setting → List Item → ℕ → ℕ → CacheEntry → Type 0
CacheHasPacketEntryUnder setting journal s version entry =
    Any (λ kept. (kept.version ≡ version) × ((kept.word ≡ entry.word)
    × IsRightPacketCacheEntry setting journal kept)) (journal_cache_of setting journal s).entries

-- the delivery of this message tells the switch, in this boot, to stamp with a version
abbrev pub IsToldToStampPackets : List Item → ℕ → ℕ → ℕ → ℕ → List WordValue → Type 0
IsToldToStampPackets before s number boot version touched =
    journal_body_to_switch before s number ≡ Some (Stamp boot version touched)

-- the entry outlives the cache's move to a version: it is of this version or a later one; or of
-- the one before, if its word meets no touched word and no entry of the version has that word
abbrev pub packet_cache_rule_outlives : ℕ → List WordValue → List CacheEntry → CacheEntry → Bool
packet_cache_rule_outlives version touched entries entry =
    nat_le version entry.version || is_cache_entry_carried version touched entries entry

-- the entry, of the same message, under this version; or as it is, if its version isn't lower
abbrev pub packet_cache_rule_at_least : ℕ → CacheEntry → CacheEntry
packet_cache_rule_at_least version entry = if nat_le version entry.version then entry else cache_entry_under version entry

-- exactly the entries that outlive the move are left, in their order, each at least at the version
abbrev pub PacketCacheRulesStayInOrder : ℕ → List WordValue → (before after : List CacheEntry) → Type 0
PacketCacheRulesStayInOrder version touched before after =
    after ≡ map (packet_cache_rule_at_least version) (filter (packet_cache_rule_outlives version touched before) before)

-- when a message raises the stamp of a switch to a version, the entries of its cache stay in their
-- order, except those of earlier versions that don't outlive the rise. An entry of the version
-- before whose word meets no word that the version's change touches has an entry under that version
-- then: itself, or the one that had its word before
pub record PacketCacheRulesOutliveStamp (setting : Setting) (before : List Item) (s number version : ℕ)
    : Type 0 where
  pub in_order : PacketCacheRulesStayInOrder version (machine_touched_by setting before version)
      (journal_cache_of setting before s).entries
      (journal_cache_of setting (before ++ item.Delivered number ∷ []) s).entries
  pub untouched : (entry : CacheEntry) → Contains (journal_cache_of setting before s).entries entry
      → entry.version + 1 ≡ version
      → IsFalse (cache_word_meets_touched (machine_touched_by setting before version) entry.word)
      → CacheHasPacketEntryUnder setting (before ++ item.Delivered number ∷ []) s version entry

abbrev pub UntouchedPacketCacheRulesStay : Setting → List Item → Type 0
UntouchedPacketCacheRulesStay setting before =
    (s number boot version : ℕ) (touched : List WordValue)
    → IsToldToStampPackets before s number boot version touched
    → journal_stamp_of before s < version
    → PacketCacheRulesOutliveStamp setting before s number version
