-- The items of one step, and which of them are calls of a switch.
use Rattle.std.specs.Prelude.{[], if◌then◌else◌, ◌++◌, ◌==◌, ◌∷◌, ◌≡◌, List, ℕ, ⊤}
use Rattle.update_machine.specs.Exports.{Header, Hop, Item, NoMachineItemConcerns, Packet, Setting, machine_item_concerns_known, journal_hop_stays_on_way, journal_travels_at}
use Rattle.journal.specs.declared.item.Item.TheVariants as item
use Rattle.switch_core.specs.Exports.{switch_call_counted}
use Rattle.refinement.specs.SwitchOf.{refined_switch_of}

-- an item that begins no step
abbrev pub BeginsNoRefinedStep : Item → Type 0
BeginsNoRefinedStep (item.Row row step) = ⊥
BeginsNoRefinedStep _ = ⊤

abbrev pub NoRefinedRows : List Item → Type 0
NoRefinedRows [] = ⊤
NoRefinedRows (first ∷ items) = BeginsNoRefinedStep first × NoRefinedRows items

-- an item that begins no step, and by which no packet enters or is closed
abbrev pub IsRefinedInStep : Item → Type 0
IsRefinedInStep (item.Row row step) = ⊥
IsRefinedInStep (item.Entered packet switch header) = ⊥
IsRefinedInStep (item.Closed packet switch) = ⊥
IsRefinedInStep _ = ⊤

abbrev pub AreRefinedInStep : List Item → Type 0
AreRefinedInStep [] = ⊤
AreRefinedInStep (first ∷ items) = IsRefinedInStep first × AreRefinedInStep items

-- what a packet or a hop does to a switch's record. It counts one call if the packet enters or is
-- closed there, one if a packet there moves on or is stuck at a down link, two if it arrives
pub record CallsRefine : Type 0 where
  pub entered : (setting : Setting) (before : List Item) (row i s t : ℕ) (header : Header)
      (items : List Item) → AreRefinedInStep items →
      let all = item.Row row (Packet s header) ∷ item.Entered i s header ∷ items in
      NoMachineItemConcerns (machine_item_concerns_known t) before all →
      refined_switch_of setting (before ++ all) t
      ≡ (if s == t then switch_call_counted (refined_switch_of setting before t) else refined_switch_of setting before t)
  pub closed : (setting : Setting) (before : List Item) (row i s t : ℕ) (header : Header) →
      refined_switch_of setting (before ++ item.Row row (Packet s header) ∷ item.Closed i s ∷ []) t
      ≡ (if s == t then switch_call_counted (refined_switch_of setting before t) else refined_switch_of setting before t)
  pub hopped : (setting : Setting) (before : List Item) (row i t : ℕ) (items : List Item) →
      AreRefinedInStep items → let all = item.Row row (Hop i) ∷ items in
      NoMachineItemConcerns (machine_item_concerns_known t) before all →
      refined_switch_of setting (before ++ all) t
      ≡ (if journal_travels_at before t i then (if journal_hop_stays_on_way items
      then switch_call_counted (refined_switch_of setting before t)
      else switch_call_counted (switch_call_counted (refined_switch_of setting before t))) else refined_switch_of setting before t)
