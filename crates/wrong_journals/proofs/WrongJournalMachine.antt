-- The machine after items that it took, as a function of them; and so the move that it makes by an
-- item in the middle of a run.
use Rattle.std.proofs.Common.{[], ◌++◌, ◌∙◌, ◌∷◌, ◌≡◌, List, None, Option, Some, ap, length, option_to_list, refl, subst, sym, ℕ}
use Rattle.std.specs.Prelude.{⊤}
use Rattle.std.specs.Result.{result_ok}
use Rattle.update_machine.specs.Exports.{Dropped, MachinePacketEnd, IsMachineRun, Item, LeftBy, Lost, Machine, Row, MachineRuns, Setting, Stuck, MachineTakes, first_machine, machine_policy_by, machine_submitted_policy, machine_with_packet}
use Rattle.journal.specs.declared.item.Item.TheVariants as item
use Rattle.update_machine.specs.Machine.{Packet}

-- what the machine knows of a packet changes, if it entered
abbrev pub changed : Machine → ℕ → (Packet → Packet) → Machine
changed old number change = elim (old.packets number) [
  | None ↦ old
  | Some packet ↦ machine_with_packet old number (change packet)
]

changed_there : (old : Machine) (number : ℕ) (change : Packet → Packet) (packet : Packet)
    → old.packets number ≡ Some packet
    → machine_with_packet old number (change packet) ≡ changed old number change
changed_there old number change packet there =
    subst (λ (known : Option Packet). machine_with_packet old number (change packet)
    ≡ elim known [ None ↦ old | Some own ↦ machine_with_packet old number (change own) ]) (sym there) refl

abbrev pub ended : MachinePacketEnd → Packet → Packet
ended end packet = record packet { end = Some end }

abbrev pub behind_item : Setting → Machine → Item → Machine
behind_item setting old (item.Submitted file version) =
    let newest = machine_submitted_policy old (length old.policies) in
    record old {
      policies = old.policies ++ option_to_list (result_ok (machine_policy_by setting newest file));
    }
behind_item setting old (item.Retired version) = record old { mark = version }
behind_item setting old (item.Entered packet switch header) = machine_with_packet old packet
    (record { header = header; entry_mark = old.mark; decision = None; end = None })
behind_item setting old (item.Decided packet version rule action how) = changed old packet
    (λ own. record own { decision = Some (record { rule = rule; action = action }) })
behind_item setting old (item.Dropped packet) = changed old packet (ended Dropped)
behind_item setting old (item.Left packet port leaving) = changed old packet (ended (LeftBy port))
behind_item setting old (item.Lost packet) = changed old packet (ended Lost)
behind_item setting old (item.Stuck packet switch cause leg down) = changed old packet (ended Stuck)
behind_item setting old _ = old

taken : (setting : Setting) (old : Machine) (item : Item) (new : Machine)
    → MachineTakes setting old item new → new ≡ behind_item setting old item
taken setting old (item.Submitted file version) new takes =
    let with_made : Option (List Row) → Machine =
    λ made. record old { policies = old.policies ++ option_to_list made } in
    takes.after ∙ ap with_made (sym takes.there)
taken setting old (item.Retired version) new takes = takes.after
taken setting old (item.Entered packet switch header) new takes = takes.after
taken setting old (item.Decided packet version rule action how) new takes =
    takes.after ∙ changed_there old packet (λ own. record own
    { decision = Some (record { rule = rule; action = action }) }) takes.packet takes.entered
taken setting old (item.Dropped packet) new takes =
    takes.after ∙ changed_there old packet (ended Dropped) takes.packet takes.entered
taken setting old (item.Left packet port leaving) new takes =
    takes.after ∙ changed_there old packet (ended (LeftBy port)) takes.packet takes.entered
taken setting old (item.Lost packet) new takes =
    takes.after ∙ changed_there old packet (ended Lost) takes.packet takes.entered
taken setting old (item.Stuck packet switch cause leg down) new takes =
    takes.after ∙ changed_there old packet (ended Stuck) takes.packet takes.entered
taken setting old _ new takes = takes

abbrev pub behind_items : Setting → Machine → List Item → Machine
behind_items setting old [] = old
behind_items setting old (item ∷ items) = behind_items setting (behind_item setting old item) items

-- a move of the machine by this item
abbrev pub Move : Setting → Machine → Item → Type 0
Move setting old item = (new : Machine) × MachineTakes setting old item new

move_within : (setting : Setting) (old : Machine) (before : List Item) (item : Item)
    (after : List Item) (new : Machine) → MachineRuns setting old (before ++ item ∷ after) new
    → Move setting (behind_items setting old before) item
move_within setting old [] item after new runs = (runs.0, runs.1)
move_within setting old (first ∷ before) item after new runs =
    move_within setting (behind_item setting old first) before item after new
    (subst (λ (m : Machine). MachineRuns setting m (before ++ item ∷ after) new)
    (taken setting old first runs.0 runs.1) runs.2)

pub move_at : (setting : Setting) (before : List Item) (item : Item) (after : List Item)
    → IsMachineRun setting (before ++ item ∷ after)
    → Move setting (behind_items setting (first_machine setting) before) item
move_at setting before item after run =
    move_within setting (first_machine setting) before item after run.0 run.1

-- the machine may take these items in turn, each to the machine behind it
abbrev pub MayTake : Setting → Machine → List Item → Type 0
MayTake setting old [] = ⊤
MayTake setting old (item ∷ items) = MachineTakes setting old item (behind_item setting old item)
    × MayTake setting (behind_item setting old item) items

pub runs_by : (setting : Setting) (old : Machine) (items : List Item) → MayTake setting old items
    → MachineRuns setting old items (behind_items setting old items)
runs_by setting old [] may = refl
runs_by setting old (item ∷ items) may = (
  behind_item setting old item,
  may.0,
  runs_by setting (behind_item setting old item) items may.1,
)

pub is_run_by : (setting : Setting) (journal : List Item)
    → MayTake setting (first_machine setting) journal → IsMachineRun setting journal
is_run_by setting journal may = (
  behind_items setting (first_machine setting) journal,
  runs_by setting (first_machine setting) journal may,
)
