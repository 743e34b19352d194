-- One more step of a journal, and the calls that it counts.
use Rattle.std.proofs.Common.{[], if◌then◌else◌, ◌++◌, ◌+◌, ◌==◌, ◌∙◌, ◌∷◌, ◌≡◌, Bool, List, ap, append-nil, append_assoc, arith, cond, false, min, refl, sum_by, sym, true, ℕ}
use Rattle.base.proofs.Exports.{sum_by-cons}
use Rattle.update_machine.specs.Exports.{Header, Hop, Item, NoMachineItemConcerns, Packet, Setting, Step, MachineStepItems, machine_item_changes_steps, machine_item_concerns_known, machine_count_of, folded_journal_from, journal_handled_count, journal_hop_calls, is_machine_entry_at, most_journal_handled, journal_hop_stays_on_way, journal_steps_in, journal_travels_at}
use Rattle.switch_core.specs.Exports.{SwitchValue, switch_call_counted}
use Rattle.update_machine.proofs.Exports.{count_of_append, folded_append}
use Rattle.refinement.specs.Exports.{AreRefinedInStep, CallsRefine, IsRefinedInStep, BeginsNoRefinedStep, NoRefinedRows, refined_switch_of}
use Rattle.refinement.proofs.RefinedHearing.{facts_kept}
use Rattle.refinement.proofs.RefinedSwitchFacts.{by_facts, switch_by, switch_is, facts_of}

-- ---- steps

with_more : (before : List Item) (newest : MachineStepItems) (steps : List MachineStepItems) (items : List Item)
    → NoRefinedRows items → folded_journal_from machine_item_changes_steps before (newest ∷ steps) items
    ≡ record newest { items = newest.items ++ items } ∷ steps
with_more before newest steps [] none = ap (λ items. (record newest { items = items }) ∷ steps)
    (sym (append-nil newest.items))
with_more before newest steps (Item.Row row step ∷ items) none = absurd none.0
with_more before newest steps (first ∷ items) none =
    with_more (before ++ first ∷ []) (record newest { items = newest.items ++ first ∷ [] }) steps
    items none.1 ∙ ap (λ all. (record newest { items = all }) ∷ steps) (append_assoc newest.items
    (first ∷ []) items)

pub steps_more : (journal : List Item) (row : ℕ) (step : Step) (items : List Item) → NoRefinedRows items
    → journal_steps_in (journal ++ Item.Row row step ∷ items)
    ≡ record { before = journal; items = Item.Row row step ∷ items } ∷ journal_steps_in journal
unfolding journal_steps_in
steps_more journal row step items none = folded_append machine_item_changes_steps [] journal
    (Item.Row row step ∷ items) ∙ with_more (journal ++ Item.Row row step ∷ [])
    (record { before = journal; items = Item.Row row step ∷ [] }) (journal_steps_in journal) items none

-- ---- calls

-- the calls of the switch in a step
abbrev pub calls_in : ℕ → List Item → List Item → ℕ
calls_in s before items =
    machine_count_of (is_machine_entry_at s) items + journal_hop_calls s (record { before = before; items = items }) items

clipped : (a b : ℕ) (more other : ℕ) → min most_journal_handled (a + more + (other + b)) ≡ min most_journal_handled
    (min most_journal_handled (a + b) + (more + other))
clipped a b more other = omega arith

pub handled_more : (s : ℕ) (journal : List Item) (row : ℕ) (step : Step) (items : List Item)
    → NoRefinedRows items → journal_handled_count (journal ++ Item.Row row step ∷ items) s
    ≡ min most_journal_handled (journal_handled_count journal s + calls_in s journal (Item.Row row step ∷ items))
unfolding journal_handled_count
handled_more s journal row step items none =
    let all : List Item = Item.Row row step ∷ items in
    let calls : MachineStepItems → ℕ = λ one. journal_hop_calls s one one.items in
    let first : MachineStepItems = record { before = journal; items = all } in
    ap (λ count. min most_journal_handled (count + sum_by calls (journal_steps_in (journal ++ all))))
    (count_of_append (is_machine_entry_at s) journal all)
    ∙ ap (λ more. min most_journal_handled (machine_count_of (is_machine_entry_at s) journal + machine_count_of (is_machine_entry_at s) all
    + more)) (ap (sum_by calls) (steps_more journal row step items none)
    ∙ sum_by-cons calls first (journal_steps_in journal))
    ∙ clipped (machine_count_of (is_machine_entry_at s) journal) (sum_by calls (journal_steps_in journal))
    (machine_count_of (is_machine_entry_at s) all) (journal_hop_calls s first all)

-- ---- items in a step

pub no_rows : (items : List Item) → AreRefinedInStep items → NoRefinedRows items
no_rows [] all = tt
no_rows (Item.Row row step ∷ items) all = absurd all.0
no_rows (first ∷ items) all = (no_row first all.0, no_rows items all.1) where
  no_row : (one : Item) → IsRefinedInStep one → BeginsNoRefinedStep one
  no_row (Item.Row row step) is = absurd is
  no_row _ is = tt

no_entry : (s : ℕ) (one : Item) → IsRefinedInStep one → is_machine_entry_at s one ≡ false
no_entry s (Item.Entered packet switch header) is = absurd is
no_entry s (Item.Closed packet switch) is = absurd is
no_entry s _ is = refl

no_entries : (s : ℕ) (items : List Item) → AreRefinedInStep items → machine_count_of (is_machine_entry_at s) items ≡ 0
no_entries s [] all = refl
no_entries s (first ∷ items) all = sum_by-cons (λ x. cond (is_machine_entry_at s x) 1 0) first items
    ∙ ap (λ b. cond b 1 0 + machine_count_of (is_machine_entry_at s) items) (no_entry s first all.0)
    ∙ omega (arith, no_entries s items all.1)

-- ---- the record of a switch in a step of packets

called_by : (setting : Setting) (before : List Item) (row t : ℕ) (step : Step) (items : List Item)
    → NoRefinedRows items → NoMachineItemConcerns (machine_item_concerns_known t) before (Item.Row row step ∷ items)
    → refined_switch_of setting (before ++ Item.Row row step ∷ items) t
    ≡ record (refined_switch_of setting before t) {
      handled = min most_journal_handled ((refined_switch_of setting before t).handled
          + calls_in t before (Item.Row row step ∷ items));
    }
called_by setting before row t step items none apart =
    let all : List Item = Item.Row row step ∷ items in
    by_facts setting (before ++ all) t _ (facts_kept setting t before all apart)
    ∙ ap (λ count. record (switch_by setting t (facts_of setting before t)) { handled = count })
    (handled_more t before row step items none)
    ∙ ap (λ (w : SwitchValue). record w {
      handled = min most_journal_handled (w.handled + calls_in t before all);
    }) (sym (switch_is setting before t))

-- by how many calls there were
one_call : (w : SwitchValue) (calls : ℕ) → calls ≡ 1
    → record w { handled = min most_journal_handled (w.handled + calls) } ≡ switch_call_counted w
one_call w calls one = ap (λ count. record w { handled = count }) (clips w.handled calls one) where
  clips : (handled calls : ℕ) → calls ≡ 1
      → min most_journal_handled (handled + calls) ≡ min (handled + 1) most_journal_handled
  clips handled calls one = omega (arith, one)

two_calls : (w : SwitchValue) (calls : ℕ) → calls ≡ 2
    → record w { handled = min most_journal_handled (w.handled + calls) } ≡ switch_call_counted (switch_call_counted w)
two_calls w calls two = ap (λ count. record w { handled = count }) (clips w.handled calls two) where
  clips : (handled calls : ℕ) → calls ≡ 2
      → min most_journal_handled (handled + calls) ≡ min (min (handled + 1) most_journal_handled + 1) most_journal_handled
  clips handled calls two = omega (arith, two)

most_clips : (most : ℕ) (counted : ℕ) → min most (min most counted + 0) ≡ min most counted
most_clips most counted = omega arith

-- a count never is above the most
no_call : (setting : Setting) (before : List Item) (t calls : ℕ) → calls ≡ 0
    → record (refined_switch_of setting before t) {
      handled = min most_journal_handled ((refined_switch_of setting before t).handled + calls);
    } ≡ refined_switch_of setting before t
unfolding refined_switch_of journal_handled_count
no_call setting before t calls none =
    ap (λ count. record (refined_switch_of setting before t) { handled = count })
    (ap (λ more. min most_journal_handled (journal_handled_count before t + more)) none
    ∙ most_clips most_journal_handled (machine_count_of (is_machine_entry_at t) before
    + sum_by (λ step. journal_hop_calls t step step.items) (journal_steps_in before)))

-- ---- packets

entry_calls : (s t : ℕ) (one : Item) (items : List Item) → AreRefinedInStep items
    → is_machine_entry_at t one ≡ (s == t) → machine_count_of (is_machine_entry_at t) (one ∷ items) ≡ cond (s == t) 1 0
entry_calls s t one items all is = sum_by-cons (λ x. cond (is_machine_entry_at t x) 1 0) one items
    ∙ ap (λ b. cond b 1 0 + machine_count_of (is_machine_entry_at t) items) is ∙ omega (arith, no_entries)

came_in : (setting : Setting) (before : List Item) (row s t : ℕ) (header : Header)
    (one : Item) (items : List Item) → BeginsNoRefinedStep one → AreRefinedInStep items
    → is_machine_entry_at t one ≡ (s == t)
    → NoMachineItemConcerns (machine_item_concerns_known t) before (Item.Row row (Packet s header) ∷ one ∷ items)
    → refined_switch_of setting (before ++ Item.Row row (Packet s header) ∷ one ∷ items) t
    ≡ (if s == t then switch_call_counted (refined_switch_of setting before t) else refined_switch_of setting before t)
came_in setting before row s t header one items begins all is apart =
    called_by setting before row t (Packet s header) (one ∷ items) (begins, no_rows items all) apart
    ∙ by_test (s == t) refl
  where
    switch : SwitchValue
    switch = refined_switch_of setting before t

    calls : ℕ
    calls = calls_in t before (Item.Row row (Packet s header) ∷ one ∷ items)

    calls_are : calls ≡ cond (s == t) 1 0
    calls_are =
        let first = sum_by-cons (λ x. cond (is_machine_entry_at t x) 1 0) (Item.Row row (Packet s header))
        (one ∷ items) in
        omega (arith, entry_calls s t one items all is, first)

    by_test : (b : Bool) → (s == t) ≡ b
        → record switch { handled = min most_journal_handled (switch.handled + calls) }
        ≡ (if b then switch_call_counted switch else switch)
    by_test true e = one_call switch calls (calls_are ∙ ap (λ b. cond b 1 0) e)
    by_test false e = no_call setting before t calls (calls_are ∙ ap (λ b. cond b 1 0) e)

went_on : (setting : Setting) (before : List Item) (row i t : ℕ) (items : List Item)
    → AreRefinedInStep items → NoMachineItemConcerns (machine_item_concerns_known t) before (Item.Row row (Hop i) ∷ items)
    → refined_switch_of setting (before ++ Item.Row row (Hop i) ∷ items) t ≡ (if journal_travels_at before t i
    then (if journal_hop_stays_on_way items then switch_call_counted (refined_switch_of setting before t)
    else switch_call_counted (switch_call_counted (refined_switch_of setting before t))) else refined_switch_of setting before t)
went_on setting before row i t items all apart =
    called_by setting before row t (Hop i) items (no_rows items all) apart
    ∙ by_test (journal_travels_at before t i) refl (journal_hop_stays_on_way items) refl
  where
    switch : SwitchValue
    switch = refined_switch_of setting before t

    calls : ℕ
    calls = calls_in t before (Item.Row row (Hop i) ∷ items)

    calls_are : calls ≡ (if journal_travels_at before t i then (if journal_hop_stays_on_way items then 1 else 2) else 0)
    calls_are =
        let first = sum_by-cons (λ x. cond (is_machine_entry_at t x) 1 0) (Item.Row row (Hop i)) items in
        omega (arith, no_entries t items all, first)

    by_test : (b : Bool) → journal_travels_at before t i ≡ b → (c : Bool) → journal_hop_stays_on_way items ≡ c
        → record switch { handled = min most_journal_handled (switch.handled + calls) }
        ≡ (if b then (if c then switch_call_counted switch else switch_call_counted (switch_call_counted switch)) else switch)
    by_test true at true stays = one_call switch calls (calls_are ∙ rw (at, stays) refl)
    by_test true at false stays = two_calls switch calls (calls_are ∙ rw (at, stays) refl)
    by_test false at c stays = no_call setting before t calls (calls_are ∙ rw at refl)

pub calls_refine : CallsRefine
calls_refine = record {
  entered = λ setting before row i s t header items all apart.
      came_in setting before row s t header (Item.Entered i s header) items tt all refl apart;
  closed = λ setting before row i s t header.
      came_in setting before row s t header (Item.Closed i s) [] tt tt refl (refl, (refl, tt));
  hopped = went_on;
}
