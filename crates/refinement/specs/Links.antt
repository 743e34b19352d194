-- What a change of its links does to a switch: it makes its next advert, which it keeps and sends,
-- as a router in OSPF makes a new own advert when its links changed (RFC 2328, section 12.4).
use Rattle.std.specs.Prelude.{[], if◌then◌else◌, ◌++◌, ◌∷◌, ◌≡◌, Bool, IsTrue, List, false, flat_map, map, true, ℕ}
use Rattle.update_machine.specs.Exports.{Advert, Item, LinkDown, LinkUp, Message, NoMachineItemConcerns, Setting, Step, machine_advert_to, machine_item_concerns_calls, machine_item_concerns_known, machine_item_concerns_switch, journal_usable_links_changed, journal_held_adverts, machine_messages_of, near, own_advert, machine_send_items, machine_switches_in}
use Rattle.base.specs.Exports.{has}
use Rattle.journal.specs.declared.item.Item.TheVariants as item
use Rattle.switch_core.specs.Exports.{SwitchValue, near_changed, switch_next_advert}
use Rattle.refinement.specs.Calls.{NoRefinedRows}
use Rattle.refinement.specs.SwitchOf.{refined_switch_of}
use Rattle.world_log.specs.Exports.{log_held_adverts}

-- the step by which the link of two switches comes back, or fails
abbrev pub refined_link_step : Bool → ℕ → ℕ → Step
refined_link_step true one two = LinkUp one two
refined_link_step false one two = LinkDown one two

-- the items are those of the step so far; none concerns the switch itself, or is a call of it
pub record RefinementLeavesSwitch (s : ℕ) (before : List Item) (row : ℕ) (step : Step) (items : List Item)
    : Type 0 where
  pub in_step : NoRefinedRows items
  pub apart : NoMachineItemConcerns (machine_item_concerns_switch s) before (item.Row row step ∷ items)
  pub calls : NoMachineItemConcerns (machine_item_concerns_calls s) before (item.Row row step ∷ items)

-- the switch after a step, before which it was this: it made its next advert if its links changed
abbrev pub refined_relinked_switch : Setting → List Item → List Item → ℕ → SwitchValue → SwitchValue
refined_relinked_switch setting before now s switch =
    if journal_usable_links_changed setting before now s then near_changed switch (near setting now s) else switch

-- what it sends about these links, if it had those before: its own advert, and over a link that
-- became usable all that it has
abbrev pub refined_link_messages : Setting → ℕ → ℕ → Advert → SwitchValue → List Message
refined_link_messages setting had has_now own switch = flat_map (λ neighbour. elim (has had neighbour) [
  | true ↦ machine_advert_to neighbour own ∷ []
  | false ↦ map (machine_advert_to neighbour) (log_held_adverts switch)
]) (machine_switches_in setting has_now)

pub record LinksRefine : Type 0 where
  -- items that concern neither the switch, nor links, nor calls of it don't change it
  pub kept : (setting : Setting) (s : ℕ) (before items : List Item) →
      NoMachineItemConcerns (machine_item_concerns_known s) before items → NoMachineItemConcerns (machine_item_concerns_calls s) before items →
      refined_switch_of setting (before ++ items) s ≡ refined_switch_of setting before s
  -- whatever a step does to links and to other switches
  pub relinked : (setting : Setting) (s : ℕ) (before : List Item) (row : ℕ) (step : Step)
      (items : List Item) → RefinementLeavesSwitch s before row step items →
      let now = before ++ item.Row row step ∷ items in
      refined_switch_of setting now s ≡ refined_relinked_switch setting before now s (refined_switch_of setting before s)
  -- the advert that it sends, and all that it has
  pub advert : (setting : Setting) (s : ℕ) (before : List Item) (row : ℕ) (step : Step)
      (items : List Item) → RefinementLeavesSwitch s before row step items →
      let now = before ++ item.Row row step ∷ items in
      IsTrue (journal_usable_links_changed setting before now s) →
      own_advert setting now s ≡ switch_next_advert (refined_switch_of setting before s) (near setting now s)
  pub held : (setting : Setting) (journal : List Item) (s : ℕ) →
      journal_held_adverts setting journal s ≡ log_held_adverts (refined_switch_of setting journal s)
  pub told : (setting : Setting) (before now : List Item) (s : ℕ) →
      machine_messages_of setting before now s
      ≡ refined_link_messages setting (near setting before s) (near setting now s)
      (own_advert setting now s)
      (refined_switch_of setting now s)
  -- messages that are sent don't change it
  pub sent : (setting : Setting) (before : List Item) (messages : List Message) (s : ℕ) →
      refined_switch_of setting (before ++ machine_send_items before messages) s ≡ refined_switch_of setting before s
