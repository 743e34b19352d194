-- The items of confirmations, resends and deliveries: no switch goes down or comes up, no link
-- changes, nothing is forgotten and no policy is submitted. What they leave as it was, and what
-- only grows.
use Rattle.std.proofs.Common.{[], if◌then◌else◌, ◌++◌, ◌<◌, ◌==◌, ◌∙◌, ◌∷◌, ◌≡◌, ◌≤◌, Bool, IsFalse, IsTrue, List, None, Some, ap, append-nil, append_assoc, arith, false, refl, subst, sym, true, unwrap_or, ℕ}
use Rattle.base.proofs.Exports.{nat_tests, option_or, ⊤}
use Rattle.update_machine.specs.Exports.{Body, Confirm, Deliver, JournalItemsHaveCauses, Item, Message, Resend, Setting, Step, MachineStepOfRow, MachineTakesNextNumber, acked_stamp, journal_after_steps, journal_boot_of, journal_current_mark, machine_first_open, gives_journal_waited_for, has_acked, is_forgotten_in_journal, is_up, is_waited_for_in_journal, journal_known_boot, journal_link_changes, journal_message_of, journal_next_message, machine_open_sent, journal_opened_at, piece, journal_retired_mark, machine_send_items, serves, machine_step_items, journal_switch_items, journal_version_count}
use Rattle.update_machine.proofs.Exports.{AreOf, have_append, have_first, next_rises}
use Rattle.control_laws.proofs.Exports.{AreKept, Both, IsControl, acked_more, acked_stamp_rises, boot_more, confirm_control, controller_control, count_more, current_rises, deliver_has, fact_on, have_both, have_weaker, known_rises, last_more, message_more, opened_at_more, opened_in, opened_on, resends_any, retired_rises, sends_any, serving_more, switch_cases, up_more}
use Rattle.convergence_laws.proofs.Exports.{IsInOrder, forgotten_more, pieces_in_order}

-- ---- calm items

abbrev pub IsCalm : List Item → Item → Type 0
IsCalm before (Item.Down s) = ⊥
IsCalm before (Item.Booted s boot) = ⊥
IsCalm before (Item.LinkIs one two up) = ⊥
IsCalm before (Item.Forgotten number) = ⊥
IsCalm before (Item.Submitted file version) = ⊥
IsCalm before _ = ⊤

-- the steps that write such items alone
abbrev pub IsCalmStep : Step → Type 0
IsCalmStep (Confirm s) = ⊤
IsCalmStep (Resend s) = ⊤
IsCalmStep (Deliver number) = ⊤
IsCalmStep _ = ⊥

pub control_is_calm : (before : List Item) (next : Item) → IsControl before next → IsCalm before next
control_is_calm before (Item.Down s) is = absurd is
control_is_calm before (Item.Booted s boot) is = absurd is
control_is_calm before (Item.LinkIs one two up) is = absurd is
control_is_calm before (Item.Forgotten number) is = absurd is
control_is_calm before (Item.Submitted file version) is = absurd is
control_is_calm before _ is = tt

sends_calm : (journal : List Item) (messages : List Message)
    → JournalItemsHaveCauses IsCalm journal (machine_send_items journal messages)
sends_calm = sends_any IsCalm (λ before n message. tt)

links_calm : (setting : Setting) (before journal : List Item)
    → JournalItemsHaveCauses IsCalm journal (journal_link_changes setting before journal)
unfolding journal_link_changes
links_calm setting before journal = sends_calm journal _

pub switch_calm : (setting : Setting) (before : List Item) (s : ℕ) (body : Body) (now : List Item)
    → JournalItemsHaveCauses IsCalm now (journal_switch_items setting before s body now)
switch_calm setting before s body now = switch_cases (JournalItemsHaveCauses IsCalm now) setting before s body
    now (λ boot version. sends_calm now _) (λ boot version. sends_calm now _)
    (λ boot version is. grind (arith, have_first, links_calm)) (λ advert is news. sends_calm now _)
    tt

step_calm : (setting : Setting) (before : List Item) (step : Step) (here : List Item)
    → IsCalmStep step → JournalItemsHaveCauses IsCalm here (machine_step_items setting before step here)
step_calm setting before (Confirm s) here is =
    have_weaker IsControl IsCalm control_is_calm _ _ (confirm_control setting s here)
step_calm setting before (Resend s) here is =
    resends_any IsCalm (λ now n message. tt) setting s here tt
step_calm setting before (Deliver number) here is = deliver_has IsCalm setting before number here tt
    tt (λ body sent. have_weaker IsControl IsCalm control_is_calm _ _
    (controller_control setting before body _)) (λ s body said. switch_calm setting before s body _)
step_calm setting before _ here is = absurd is

-- ---- a journal that goes on calmly

-- the later journal is the earlier one and then calm items, in order
pub record Calmly (setting : Setting) (before after : List Item) : Type 0 where
  pub items : List Item
  pub is : after ≡ before ++ items
  pub have : JournalItemsHaveCauses (Both IsCalm (IsInOrder setting)) before items

pub calm_itself : (setting : Setting) (journal : List Item) → Calmly setting journal journal
calm_itself setting journal = record { items = []; is = sym (append-nil journal); have = tt }

pub calm_through : (setting : Setting) (one two three : List Item) → Calmly setting one two
    → Calmly setting two three → Calmly setting one three
calm_through setting one two three first later = record {
  items = first.items ++ later.items;
  is = cc (later.is, first.is, append_assoc one first.items later.items);
  have = have_append (Both IsCalm (IsInOrder setting)) one first.items later.items first.have
      (subst (λ j. JournalItemsHaveCauses (Both IsCalm (IsInOrder setting)) j later.items) first.is later.have);
}

pub calm_causes : (setting : Setting) (before after : List Item)
    → JournalItemsHaveCauses (IsInOrder setting) [] before → Calmly setting before after
    → JournalItemsHaveCauses (IsInOrder setting) [] after
calm_causes setting before after causes calm = rw calm.is (have_append (IsInOrder setting) [] before
    calm.items causes (have_weaker (Both IsCalm (IsInOrder setting)) (IsInOrder setting)
    (λ now next both. both.second) before calm.items calm.have))

-- the row of a step, and what it writes behind that
pub calm_row : (setting : Setting) (before : List Item) (row : ℕ) (step : Step) → IsCalmStep step
    → Calmly setting before (before ++ Item.Row row step ∷ [])
unfolding piece
calm_row setting before row step is = record {
  items = Item.Row row step ∷ [];
  is = refl;
  have = (record { first = tt; second = (pieces_in_order setting before row step).0 }, tt);
}

pub calm_rest : (setting : Setting) (before : List Item) (row : ℕ) (step : Step) → IsCalmStep step
    → let here = before ++ Item.Row row step ∷ [] in
    Calmly setting here (before ++ piece setting before row step)
unfolding piece
calm_rest setting before row step is =
    let here : List Item = before ++ Item.Row row step ∷ [] in record {
      items = machine_step_items setting before step here;
      is = sym (append_assoc before (Item.Row row step ∷ []) (machine_step_items setting before step here));
      have = have_both IsCalm (IsInOrder setting) here _ (step_calm setting before step here is)
          (pieces_in_order setting before row step).1;
    }

pub calm_piece : (setting : Setting) (before : List Item) (row : ℕ) (step : Step)
    → IsCalmStep step → Calmly setting before (before ++ piece setting before row step)
calm_piece setting before row step is = calm_through setting before
    (before ++ Item.Row row step ∷ []) (before ++ piece setting before row step)
    (calm_row setting before row step is) (calm_rest setting before row step is)

pub calm_steps : (setting : Setting) (before : List Item) (steps : List MachineStepOfRow)
    → AreOf IsCalmStep steps → Calmly setting before (journal_after_steps setting before steps)
calm_steps setting before [] are = calm_itself setting before
calm_steps setting before (next ∷ steps) are =
    calm_through setting before (before ++ piece setting before next.row next.step)
    (journal_after_steps setting before (next ∷ steps)) (calm_piece setting before next.row next.step are.0)
    (calm_steps setting (before ++ piece setting before next.row next.step) steps are.1)

-- ---- what it leaves, and what grows

pub record Stays (before after : List Item) : Type 0 where
  pub up : (s : ℕ) → is_up after s ≡ is_up before s
  pub boot : (s : ℕ) → journal_boot_of after s ≡ journal_boot_of before s
  pub forgotten : (n : ℕ) → is_forgotten_in_journal after n ≡ is_forgotten_in_journal before n
  pub count : journal_version_count after ≡ journal_version_count before
  pub confirmed : (s : ℕ) → IsFalse (is_waited_for_in_journal before s) → IsFalse (is_waited_for_in_journal after s)
  pub serving : (s : ℕ) → IsTrue (serves before s) → IsTrue (serves after s)
  pub current : journal_current_mark before ≤ journal_current_mark after
  pub retired : journal_retired_mark before ≤ journal_retired_mark after
  pub known : (s : ℕ) → journal_known_boot before s ≤ journal_known_boot after s
  pub numbers : journal_next_message before ≤ journal_next_message after
  pub opened : (s boot version : ℕ) → opened_in before s boot ≡ Some version
      → opened_in after s boot ≡ Some version
  pub messages : (n : ℕ) → n < journal_next_message before → journal_message_of after n ≡ journal_message_of before n

pub next_confirmed : (before : List Item) (next : Item) (s : ℕ) → IsCalm before next
    → IsFalse (is_waited_for_in_journal before s) → IsFalse (is_waited_for_in_journal (before ++ next ∷ []) s)
next_confirmed before (Item.Down t) s calm none = absurd calm
next_confirmed before (Item.OverNow t) s calm none =
    rw (last_more (gives_journal_waited_for s) before (Item.OverNow t) false) (by_test (t == s) none)
  where
    by_test : (b : Bool) → IsFalse (is_waited_for_in_journal before s)
        → IsFalse (unwrap_or (if b then Some false else None) (is_waited_for_in_journal before s))
    by_test true none = refl
    by_test false none = none
next_confirmed before next s calm none = rw (last_more (gives_journal_waited_for s) before next false) none

next_serving : (before : List Item) (next : Item) (s : ℕ) → IsCalm before next
    → IsTrue (serves before s) → IsTrue (serves (before ++ next ∷ []) s)
next_serving before (Item.Down t) s calm serving = absurd calm
next_serving before (Item.Booted t boot) s calm serving = absurd calm
next_serving before (Item.Opened t version) s calm serving =
    rw (serving_more before (Item.Opened t version) s) (by_test (t == s) serving)
  where
    by_test : (b : Bool) → IsTrue (serves before s)
        → IsTrue (unwrap_or (if b then Some true else None) (serves before s))
    by_test true serving = refl
    by_test false serving = serving
next_serving before next s calm serving = rw (serving_more before next s) serving

next_message_same : (before : List Item) (next : Item) (n : ℕ) → MachineTakesNextNumber before next
    → n < journal_next_message before → journal_message_of (before ++ next ∷ []) n ≡ journal_message_of before n
next_message_same before (Item.Sent number message) n takes below =
    let apart : (number == n) ≡ false = grind (arith, nat_tests) in
    rw (message_more before (Item.Sent number message) n, apart) refl
next_message_same before next n takes below = message_more before next n

next_up : (before : List Item) (next : Item) (s : ℕ) → IsCalm before next
    → is_up (before ++ next ∷ []) s ≡ is_up before s
next_up before (Item.Down t) s calm = absurd calm
next_up before (Item.Booted t boot) s calm = absurd calm
next_up before next s calm = up_more before next s

next_boot : (before : List Item) (next : Item) (s : ℕ) → IsCalm before next
    → journal_boot_of (before ++ next ∷ []) s ≡ journal_boot_of before s
next_boot before (Item.Booted t boot) s calm = absurd calm
next_boot before next s calm = boot_more before next s

next_forgotten : (before : List Item) (next : Item) (n : ℕ) → IsCalm before next
    → is_forgotten_in_journal (before ++ next ∷ []) n ≡ is_forgotten_in_journal before n
next_forgotten before (Item.Forgotten number) n calm = absurd calm
next_forgotten before next n calm = forgotten_more before next n

next_count : (before : List Item) (next : Item) → IsCalm before next
    → journal_version_count (before ++ next ∷ []) ≡ journal_version_count before
next_count before (Item.Submitted file version) calm = absurd calm
next_count before next calm = count_more before next

next_stays : (setting : Setting) (before : List Item) (next : Item)
    → Both IsCalm (IsInOrder setting) before next → Stays before (before ++ next ∷ [])
next_stays setting before next both = record {
  up = λ s. next_up before next s both.first;
  boot = λ s. next_boot before next s both.first;
  forgotten = λ n. next_forgotten before next n both.first;
  count = next_count before next both.first;
  confirmed = λ s none. next_confirmed before next s both.first none;
  serving = λ s serving. next_serving before next s both.first serving;
  current = current_rises setting before next both.second.first;
  retired = retired_rises setting before next both.second.first;
  known = λ s. known_rises before next s;
  numbers = next_rises before next;
  opened = λ s boot version opened. opened_on before next s boot version opened;
  messages = λ n below. next_message_same before next n both.second.second.first below;
}

stays_itself : (journal : List Item) → Stays journal journal
stays_itself journal = record {
  up = λ s. refl;
  boot = λ s. refl;
  forgotten = λ n. refl;
  count = refl;
  confirmed = λ s none. none;
  serving = λ s serving. serving;
  current = omega arith;
  retired = omega arith;
  known = λ s. omega arith;
  numbers = omega arith;
  opened = λ s boot version opened. opened;
  messages = λ n below. refl;
}

stays_through : (one two three : List Item) → Stays one two → Stays two three → Stays one three
stays_through one two three first later = record {
  up = λ s. later.up s ∙ first.up s;
  boot = λ s. later.boot s ∙ first.boot s;
  forgotten = λ n. later.forgotten n ∙ first.forgotten n;
  count = later.count ∙ first.count;
  confirmed = λ s none. later.confirmed s (first.confirmed s none);
  serving = λ s serving. later.serving s (first.serving s serving);
  current = omega (arith, first.current, later.current);
  retired = omega (arith, first.retired, later.retired);
  known = λ s. omega (arith, first.known s, later.known s);
  numbers = omega (arith, first.numbers, later.numbers);
  opened = λ s boot version opened. later.opened s boot version
      (first.opened s boot version opened);
  messages = λ n below. later.messages n (omega (arith, first.numbers)) ∙ first.messages n below;
}

pub stays : (setting : Setting) (before after : List Item) → Calmly setting before after
    → Stays before after
stays setting before after calm = rw calm.is (fact_on (Both IsCalm (IsInOrder setting))
    (Stays before) (λ now next both so_far. stays_through before now (now ++ next ∷ []) so_far
    (next_stays setting now next both)) before calm.items calm.have (stays_itself before))

-- ---- while the known boot of a switch stays

record WhileKnown (first : List Item) (s : ℕ) (Holds : List Item → Type 0) (now : List Item)
    : Type 0 where
  known : journal_known_boot first s ≤ journal_known_boot now s
  holds : journal_known_boot now s ≡ journal_known_boot first s → Holds now

-- what one more item keeps while the known boot stays holds where that is the same at the end
while_known : (setting : Setting) (before after : List Item) (s : ℕ) (Holds : List Item → Type 0)
    → ((now : List Item) (next : Item) → journal_known_boot (now ++ next ∷ []) s ≡ journal_known_boot now s
    → Holds now → Holds (now ++ next ∷ [])) → Calmly setting before after
    → journal_known_boot after s ≡ journal_known_boot before s → Holds before → Holds after
while_known setting before after s Holds keeps calm same holds = (subst (WhileKnown before s Holds)
    (sym calm.is) (fact_on (Both IsCalm (IsInOrder setting)) (WhileKnown before s Holds) on before
    calm.items calm.have (record { known = omega arith; holds = λ still. holds }))).holds same
  where
    on : AreKept (Both IsCalm (IsInOrder setting)) (WhileKnown before s Holds)
    on now next both while = record {
      known = omega (arith, while.known, known_rises now next s);
      holds = λ same. let still : journal_known_boot (now ++ next ∷ []) s ≡ journal_known_boot now s =
          omega (arith, same, while.known, known_rises now next s) in
          keeps now next still (while.holds (omega (arith, same, still)));
    }

-- what it acknowledged it has acknowledged
pub acked_grows : (setting : Setting) (before after : List Item) (s version : ℕ)
    → Calmly setting before after → journal_known_boot after s ≡ journal_known_boot before s
    → IsTrue (has_acked before s version) → IsTrue (has_acked after s version)
acked_grows setting before after s version = while_known setting before after s
    (λ now. IsTrue (has_acked now s version))
    (λ now next still acked. rw (acked_more now next s version still, acked) refl)

-- a switch that was opened is known to stamp with no lower version
record StampsAbove (s bound version : ℕ) (now : List Item) : Type 0 where
  opened : journal_opened_at now s ≡ Some version
  above : bound ≤ acked_stamp now s

pub stamp_grows : (setting : Setting) (before after : List Item) (s bound version : ℕ)
    → Calmly setting before after → journal_known_boot after s ≡ journal_known_boot before s
    → journal_opened_at before s ≡ Some version → bound ≤ acked_stamp before s → bound ≤ acked_stamp after s
stamp_grows setting before after s bound version calm same opened above =
    (while_known setting before after s (StampsAbove s bound version)
    (λ now next still stamps. let now_opened = opened_at_more now next s still
    ∙ ap (λ o. option_or o (machine_first_open (machine_open_sent s (journal_known_boot now s) next))) stamps.opened in
    record {
      opened = now_opened;
      above = omega (
        arith,
        stamps.above,
        acked_stamp_rises now next s still
            (ap (λ o. unwrap_or o 0) now_opened ∙ sym (ap (λ o. unwrap_or o 0) stamps.opened)),
      );
    })
    calm same (record { opened = opened; above = above })).above
