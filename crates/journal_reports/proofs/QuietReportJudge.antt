-- `quiet` returns what the definition says.
use Rattle.std.proofs.Common.{[], ◌&&◌, ◌+◌, ◌<◌, ◌||◌, ◌↔◌, ◌∙◌, ◌∷◌, ◌≡◌, ◌≤◌, All, Bool, IsFalse, IsTrue, List, ap, arith, drop, false, get_or, length, not, refl, subst, suc, sym, true, zero, ℕ}
use Rattle.std.specs.List.{list_all, range_with_len}
use Rattle.std.proofs.lemmas.List.{at_drop_all}
use Rattle.std.proofs.lemmas.List.Elements.{All-from_recursion}
use Rattle.std.proofs.lemmas.List.Sums.{AllPass-from_list_all, list_all-from_AllPass}
use Rattle.update_machine.specs.Exports.{AreMachineMessagesReceived, IsQuietMachineJournal, Item, Setting, is_machine_delivery_item, is_up, is_waited_for_in_journal, machine_switches_of, was_delivered_in_journal}
use Rattle.journal.specs.declared.item.Item.TheVariants as item
use Rattle.convergence_laws.proofs.Exports.{all_in, each_of_in}
use Rattle.journal_reports.specs.declared.traffic.Traffic.{Traffic}
use Rattle.journal_reports.specs.Exports.{AreReportTrafficRows, ReportTrafficConcernsOne, IsReportTrafficAfter, IsReportTraffic, report_concerned_switch, report_has_mark, is_missed_in_report, is_named_in_report, report_switch_status_in}
use Rattle.journal_reports.proofs.QuietReadItems.{IsReadNext, mark_first, none_delivered, not_received, received_first, traffic_first}

-- ---- switches

abbrev is_found : List Item → ℕ → Bool
is_found journal s = not (is_missed_in_report (report_switch_status_in journal s))

rows_found : (journal : List Item) (rows : List Traffic) (first : ℕ)
    → ((s : ℕ) (d : Traffic) → s < length rows → IsReportTraffic journal [] (first + s) (get_or rows s d))
    → list_all (λ row. not (is_missed_in_report row.status)) rows
    ≡ list_all (is_found journal) (range_with_len first (length rows))
rows_found journal [] first are = refl
rows_found journal (row ∷ rows) first are =
    let here : row.status ≡ report_switch_status_in journal first =
    (subst (λ s. IsReportTraffic journal [] s row) (omega arith) (are 0 row (omega arith))).status in
    let rest = rows_found journal rows
    (first + 1) (λ s d within. subst (λ n. IsReportTraffic journal [] n (get_or rows s d)) (omega arith)
    (are (suc s) d (omega (arith, within)))) in
    rw (here, rest) refl

not_missed : (up waited : Bool) → not (not up && waited) ≡ true → IsTrue (up || not waited)
not_missed true waited e = refl
not_missed false true e = absurd cc
not_missed false false e = refl

is_not_missed : (up waited : Bool) → IsTrue (up || not waited) → not (not up && waited) ≡ true
is_not_missed true waited is = refl
is_not_missed false true is = absurd cc
is_not_missed false false is = refl

-- none of the switches is missed where the definition says so
pub switches_found : (setting : Setting) (journal : List Item) (rows : List Traffic)
    → AreReportTrafficRows journal [] rows → length setting.net.switches ≡ length rows
    → IsTrue (list_all (λ row. not (is_missed_in_report row.status)) rows)
    ↔ All (λ s. IsTrue (is_up journal s || not (is_waited_for_in_journal journal s))) (machine_switches_of setting)
switches_found setting journal rows are count = (
  λ none. All-from_recursion Fine (machine_switches_of setting)
      (each_of_in Fine (machine_switches_of setting) (λ s is. not_missed (is_up journal s)
      (is_waited_for_in_journal journal s) (all_in Found s (machine_switches_of setting)
      (AllPass-from_list_all (is_found journal) (machine_switches_of setting) (sym same ∙ none)) is))),
  λ fine. same
      ∙ list_all-from_AllPass (is_found journal) (machine_switches_of setting) (All-from_recursion Found
      (machine_switches_of setting) (each_of_in Found (machine_switches_of setting) (λ s is. is_not_missed
      (is_up journal s) (is_waited_for_in_journal journal s) (all_in Fine s (machine_switches_of setting) fine is)))),
) where
  Fine : ℕ → Type 0
  Fine s = IsTrue (is_up journal s || not (is_waited_for_in_journal journal s))

  Found : ℕ → Type 0
  Found s = is_found journal s ≡ true

  same : list_all (λ row. not (is_missed_in_report row.status)) rows
      ≡ list_all (is_found journal) (machine_switches_of setting)
  same = rows_found journal rows 0 (λ s d within. subst
      (λ n. IsReportTraffic journal [] n (get_or rows s d)) (omega arith) (are s d within))
      ∙ ap (λ n. list_all (is_found journal) (range_with_len 0 n)) (sym count)

-- ---- the last items of a journal

-- what was received was at its end
received_tail : (setting : Setting) (journal items : List Item) (place : ℕ)
    → AreMachineMessagesReceived setting journal items → AreMachineMessagesReceived setting journal (drop place items)
received_tail setting journal items zero received = received
received_tail setting journal [] (suc place) received = tt
received_tail setting journal (item.Sent number message ∷ items) (suc place) received =
    received_tail setting journal items place received.1
received_tail setting journal (next ∷ items) (suc place) received =
    received_tail setting journal items place received

-- ---- one more item is read

-- the item before those that were read
item_before : (items : List Item) (place : ℕ) (next : Item) → place < length items
    → next ≡ get_or items place next → drop place items ≡ next ∷ drop (place + 1) items
item_before [] place next there is = absurd (omega arith)
item_before (first ∷ items) zero next there is = ap (λ x. x ∷ items) (sym is)
item_before (first ∷ items) (suc place) next there is =
    let same : suc (place + 1) ≡ suc place + 1 = omega arith in
    item_before items place next (omega (arith, there)) is
    ∙ ap (λ n. next ∷ drop n (first ∷ items)) same

pub marks_before : (items : List Item) (place from n : ℕ) (next : Item) (marks now : List Bool)
    → from ≡ place + 1 → place < length items → next ≡ get_or items place next
    → report_has_mark marks n ≡ was_delivered_in_journal (drop from items) n
    → report_has_mark now n ≡ (is_machine_delivery_item n next || report_has_mark marks n)
    → report_has_mark now n ≡ was_delivered_in_journal (drop place items) n
marks_before items place from n next marks now at there is was step = mark_first marks now next
    (drop (place + 1) items) n (was ∙ ap (λ k. was_delivered_in_journal (drop k items) n) at) step
    ∙ ap (λ js. was_delivered_in_journal js n) (sym (item_before items place next there is))

pub read_next : (items : List Item) (place from : ℕ) (next : Item) (marks : List Bool)
    (rows now : List Traffic) (answer : Bool)
    → from ≡ place + 1 → place < length items → next ≡ get_or items place next
    → ((n : ℕ) → report_has_mark marks n ≡ was_delivered_in_journal (drop place items) n)
    → AreReportTrafficRows items (drop from items) rows
    → ((s : ℕ) (d : Traffic) → s < length rows → is_named_in_report s (report_concerned_switch next) ≡ true
    → IsReportTrafficAfter marks next (get_or rows s d) (get_or now s d) answer)
    → IsReadNext items (drop (place + 1) items) next marks rows now answer
read_next items place from next marks rows now answer at there is right was one = record {
  right = λ n. right n ∙ ap (λ js. was_delivered_in_journal js n) (item_before items place next there is);
  was = subst (λ k. AreReportTrafficRows items (drop k items) rows) at was;
  one = one;
}

module _ (items : List Item) (place : ℕ) (next : Item) (marks : List Bool) (rows now : List Traffic)
    (answer : Bool) (there : place < length items) (is : next ≡ get_or items place next)
    (read : IsReadNext items (drop (place + 1) items) next marks rows now answer) where
  first : drop place items ≡ next ∷ drop (place + 1) items
  first = item_before items place next there is

  pub rows_before : length now ≡ length rows → ((s : ℕ) (d : Traffic)
      → is_named_in_report s (report_concerned_switch next) ≡ false → get_or now s d ≡ get_or rows s d)
      → AreReportTrafficRows items (drop place items) now
  rows_before count others = subst (λ js. AreReportTrafficRows items js now) (sym first)
      (traffic_first items (drop (place + 1) items) next marks rows now answer read count others)

  module _ (setting : Setting) (count : length setting.net.switches ≡ length rows) where
    pub received_before : (from : ℕ) → from ≡ place + 1 → IsTrue answer
        → AreMachineMessagesReceived setting items (drop from items) → AreMachineMessagesReceived setting items (drop place items)
    received_before from at met received = rw first (received_first setting items
        (drop (place + 1) items) next marks rows now answer count read met (rw at at received))

    -- a message that matters wasn't received
    pub waiting_answer : ReportTrafficConcernsOne rows next → IsFalse answer → IsQuietMachineJournal setting items → ⊥
    waiting_answer concerns unmet quiet = not_received setting items (drop (place + 1) items) next
        marks rows now answer count read concerns unmet (subst (AreMachineMessagesReceived setting items) first
        (received_tail setting items items place quiet.messages))

-- ---- before any item is read

none_left : (items : List Item) (place : ℕ) → length items ≤ place → drop place items ≡ []
none_left items place few = at_drop_all (λ (js : List Item). js) items place few

pub marks_at_end : (items : List Item) (place n : ℕ) (marks : List Bool) → length items ≤ place
    → marks ≡ [] → report_has_mark marks n ≡ was_delivered_in_journal (drop place items) n
marks_at_end items place n marks few none = cc (none, none_delivered n, none_left items place few)

pub rows_at_end : (items : List Item) (place : ℕ) (rows : List Traffic) → length items ≤ place
    → AreReportTrafficRows items [] rows → AreReportTrafficRows items (drop place items) rows
rows_at_end items place rows few are = rw (none_left items place few) are

pub received_at_end : (setting : Setting) (items : List Item) (place : ℕ) → length items ≤ place
    → AreMachineMessagesReceived setting items (drop place items)
received_at_end setting items place few = rw (none_left items place few) tt

-- ---- the answer

pub missed_answer : (setting : Setting) (journal : List Item) (rows : List Traffic)
    → AreReportTrafficRows journal [] rows → length setting.net.switches ≡ length rows
    → IsFalse (list_all (λ row. not (is_missed_in_report row.status)) rows) → IsQuietMachineJournal setting journal → ⊥
missed_answer setting journal rows are count some quiet =
    clash (sym some ∙ (switches_found setting journal rows are count).1 quiet.switches)
  where
    clash : false ≡ true → ⊥
    clash e = absurd cc
