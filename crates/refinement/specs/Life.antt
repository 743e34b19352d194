-- What a crash, a boot and an expiry do to a switch.
use Rattle.std.specs.Prelude.{[], ◌++◌, ◌+◌, ◌∷◌, ◌≡◌, List, None, Option, Some, option_map, slice_get, ℕ}
use Rattle.update_machine.specs.Exports.{JournalItemsHaveCauses, Item, Setting, journal_boot_of, machine_expire_items, nothing}
use Rattle.journal.specs.declared.item.Item.TheVariants as item
use Rattle.switch_core.specs.Exports.{crashed_switch, switch_entry_expired, restarted_switch}
use Rattle.control_laws.specs.Exports.{HasControlItemCause}
use Rattle.refinement.specs.SwitchOf.{refined_switch_of}

-- the number of the message that brought the cache entry at a place, if there is one
abbrev pub refined_message_at : Setting → List Item → ℕ → ℕ → Option ℕ
refined_message_at setting journal s place =
    option_map (λ entry. entry.message)
    (slice_get (refined_switch_of setting journal s).cache.entries place)

-- what an expiry writes
abbrev pub refined_expired_by : ℕ → ℕ → Option ℕ → List Item
refined_expired_by s place None = nothing
refined_expired_by s place (Some message) = item.Expired s place message ∷ []

pub record LivesRefine : Type 0 where
  pub crash : (setting : Setting) (journal : List Item) (s : ℕ) →
      refined_switch_of setting (journal ++ item.Down s ∷ []) s
      ≡ crashed_switch (refined_switch_of setting journal s)
  -- the next boot is one that the switch was never in
  pub restart : (setting : Setting) (journal : List Item) (s : ℕ) →
      JournalItemsHaveCauses (HasControlItemCause setting) [] journal →
      refined_switch_of setting (journal ++ item.Booted s (journal_boot_of journal s + 1) ∷ []) s
      ≡ restarted_switch (refined_switch_of setting journal s)
  pub expiry : (setting : Setting) (journal : List Item) (s place message : ℕ) →
      refined_switch_of setting (journal ++ item.Expired s place message ∷ []) s
      ≡ switch_entry_expired (refined_switch_of setting journal s) place
  -- an expiry writes the message that brought the entry at its place, if there is one
  pub expires : (setting : Setting) (journal : List Item) (s place : ℕ) →
      machine_expire_items setting s place journal
      ≡ refined_expired_by s place (refined_message_at setting journal s place)
