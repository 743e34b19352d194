-- Behind their settling the marks are settled, whatever was heard before it.
use Rattle.std.proofs.Common.{[], ◌&&◌, ◌++◌, ◌+◌, ◌<◌, ◌∙◌, ◌∷◌, ◌≡◌, ◌≤◌, ◌⊎◌, All, Bool, IsFalse, IsTrue, List, Option, Some, ap, append-nil, append_assoc, arith, false, filter, inl, inr, is_some, length, map, nat_lt, not, refl, subst, suc, sym, take_while, true, zero, ℕ, rules}
use Rattle.base.proofs.Exports.{All-from_recursion, AllByRecursion, list_all, nat_tests, option_or, range_with_len, take_while-cons}
use Rattle.update_machine.specs.Exports.{AreMachineMarksSettled, JournalControllerKeeps, Item, Message, Setting, acked_stamp, machine_all_acked, machine_collect_for, machine_current_items, journal_current_mark, has_acked, machine_blocks_in_turn, is_joining, is_member, is_over, journal_known_boot, members, journal_next_current, journal_next_message, journal_next_retired, journal_open_for, machine_open_items, journal_opened_at, machine_opening_switches, machine_retired_items, journal_retired_mark, machine_send_items, machine_sent_items_from, machine_settling, journal_stamp_for, machine_switches_of, journal_version_count}
use Rattle.control_laws.proofs.ControlCommands.{Grows, IsOfSettling, each_command, grows, parts_settle}
use Rattle.control_laws.proofs.ControlFactsGrown.{current_more, known_more, opened_at_more, over_more, retired_more, told_more}
use Rattle.control_laws.proofs.ControlMessageSends.{each_range, sent_kept}
use Rattle.control_laws.proofs.ControlSwitchOpenings.{member_of, own_opening}
pub use Rattle.control_laws.proofs.ControlSaidToController.{in_two}
use Rattle.control_laws.proofs.ControlSaidToController.{each_in_range, rise_cases}
use Rattle.control_laws.proofs.ControlMemberFacts.{opened_same}
use Rattle.control_laws.proofs.ControlIdleSteps.{ReopensAlone, leaves_keep, member_same, sends_leave, stamp_same}

-- ---- where nothing grows

keeps_grow : (before after : List Item) → JournalControllerKeeps before after → Grows before after
keeps_grow before after keeps = search rules

-- ---- a version that some member lacks, it lacks among more members

fewer_pass : (p q m n : ℕ → Bool) → ((x : ℕ) → q x ≡ p x) → ((x : ℕ) → IsTrue (m x) → IsTrue (n x))
    → (xs : List ℕ) → IsFalse (list_all p (filter m xs)) → IsFalse (list_all q (filter n xs))
fewer_pass p q m n same more [] none = none
fewer_pass p q m n same more (x ∷ xs) none = search (rules, fewer_pass p q m n same more xs)

-- a version that waits for a member goes on to wait
abbrev pub Waits : Setting → List Item → Type 0
Waits setting journal = (journal_current_mark journal ≡ journal_version_count journal)
    ⊎ IsFalse (machine_all_acked setting journal (journal_current_mark journal + 1))

waits_on : (setting : Setting) (before after : List Item) → Grows before after
    → journal_current_mark after ≡ journal_current_mark before → Waits setting before → Waits setting after
waits_on setting before after more current waits = search (rules, fewer_pass)

-- ---- joining switches

abbrev pub NoneJoins : List Item → ℕ → Type 0
NoneJoins journal s = IsTrue (is_joining journal s)
    → IsFalse (has_acked journal s (journal_current_mark journal))

joining_was : (before after : List Item) (s : ℕ) → Grows before after
    → IsTrue (is_joining after s) → IsTrue (is_joining before s)
joining_was before after s more joins = search rules

joins_on : (setting : Setting) (before after : List Item) → Grows before after
    → journal_current_mark after ≡ journal_current_mark before → All (NoneJoins before) (machine_switches_of setting)
    → All (NoneJoins after) (machine_switches_of setting)
joins_on setting before after more current all = search (rules, joining_was)

-- ---- the retired mark

stamps_same : (f g : ℕ → ℕ) (m n : ℕ → Bool) → ((x : ℕ) → g x ≡ f x) → ((x : ℕ) → n x ≡ m x)
    → (xs : List ℕ) → map g (filter n xs) ≡ map f (filter m xs)
stamps_same f g m n same tests xs = search rules

next_same : (setting : Setting) (before after : List Item)
    → ((s : ℕ) → acked_stamp after s ≡ acked_stamp before s)
    → ((s : ℕ) → is_member after s ≡ is_member before s) → journal_current_mark after ≡ journal_current_mark before
    → journal_next_retired setting after ≡ journal_next_retired setting before
unfolding journal_next_retired
next_same setting before after stamps members current = search (rules, stamps_same)

-- ---- where nothing changes

pub settled_on : (setting : Setting) (before after : List Item) → JournalControllerKeeps before after
    → AreMachineMarksSettled setting before → AreMachineMarksSettled setting after
settled_on setting before after keeps settled =
    search (rules, keeps_grow, waits_on, joins_on, next_same)

-- ---- sendings

-- messages leave the marks
pub record MarksStay (before after : List Item) : Type 0 where
  pub current : journal_current_mark after ≡ journal_current_mark before
  pub retired : journal_retired_mark after ≡ journal_retired_mark before

marks_sent : (messages : List Message) (journal : List Item) (n : ℕ)
    → MarksStay journal (journal ++ machine_sent_items_from n messages)
unfolding machine_sent_items_from
marks_sent [] journal n = record {
  current = ap journal_current_mark (append-nil journal);
  retired = ap journal_retired_mark (append-nil journal);
}
marks_sent (message ∷ messages) journal n =
    let first : List Item = Item.Sent n message ∷ [] in
    let rest = marks_sent messages (journal ++ first) (n + 1) in
    let whole = append_assoc journal first (machine_sent_items_from (n + 1) messages) in record {
      current = cc (whole, rest.current, current_more journal (Item.Sent n message));
      retired = cc (whole, rest.retired, retired_more journal (Item.Sent n message));
    }

-- all that are told to open are opened
or_some : (o : Option ℕ) (version : ℕ) → IsTrue (is_some (option_or o (Some version)))
or_some o version = search rules

opens_now : (base journal : List Item) (s n version : ℕ) → journal_known_boot journal s ≡ journal_known_boot base s
    → IsTrue (is_some (journal_opened_at (journal ++ Item.Sent n (journal_open_for base version s) ∷ []) s))
opens_now base journal s n version same =
    search (rules, own_opening, opened_at_more, known_more, or_some)

all_opened : (switches : List ℕ) (base journal : List Item) (n version : ℕ)
    → ((s : ℕ) → journal_known_boot journal s ≡ journal_known_boot base s)
    → AllByRecursion (λ s. IsTrue (is_some (journal_opened_at
    (journal ++ machine_sent_items_from n (map (journal_open_for base version) switches)) s))) switches
unfolding machine_sent_items_from
all_opened [] base journal n version same = tt
all_opened (t ∷ switches) base journal n version same =
    let next : Item = Item.Sent n (journal_open_for base version t) in
    let messages : List Message = map (journal_open_for base version) switches in
    let rest : List Item = machine_sent_items_from (n + 1) messages in
    subst
    (λ now. AllByRecursion (λ s. IsTrue (is_some (journal_opened_at now s))) (t ∷ switches))
    (append_assoc journal (next ∷ []) rest) (
      (grows (journal ++ next ∷ []) rest (sent_kept IsOfSettling _ (λ before m message is. is)
          (λ before m message other new is. is) messages (journal ++ next ∷ []) (n + 1)
          (each_command (journal_open_for base version) (λ s. tt) switches))).opened t
          (opens_now base journal t n version (same t)),
      all_opened switches base _ (n + 1) version (λ s. known_more journal next s ∙ same s),
    )

-- ---- current rises

next_stops : (test : ℕ → Bool) (low n : ℕ) → (length (take_while test (range_with_len low n)) ≡ n)
    ⊎ IsFalse (test (low + length (take_while test (range_with_len low n))))
next_stops test low zero = inl refl
next_stops test low (suc n) = search (rules, take_while-cons, next_stops test (low + 1) n)

next_waits : (setting : Setting) (journal : List Item)
    → journal_current_mark journal ≤ journal_version_count journal
    → (journal_next_current setting journal ≡ journal_version_count journal)
    ⊎ IsFalse (machine_all_acked setting journal (journal_next_current setting journal + 1))
unfolding journal_next_current
next_waits setting journal there = search (rules, next_stops)

next_above : (setting : Setting) (journal : List Item)
    → journal_current_mark journal ≤ journal_next_current setting journal
unfolding journal_next_current
next_above setting journal = omega arith

-- behind its rise, current is what it may rise to
current_is : (setting : Setting) (journal : List Item)
    → journal_current_mark (journal ++ machine_current_items setting journal) ≡ journal_next_current setting journal
unfolding machine_current_items
current_is setting journal =
    let version : ℕ = journal_next_current setting journal in
    let raised : List Item = journal ++ Item.Current version ∷ [] in
    rise_cases (λ now. journal_current_mark now ≡ version) setting journal (Item.Current version)
    (journal_stamp_for setting journal version) (nat_lt (journal_current_mark journal) version)
    (λ e. let above = next_above setting journal in grind (arith, nat_tests))
    ((marks_sent _ raised (journal_next_message raised)).current ∙ current_more journal _)

current_waits : (setting : Setting) (journal : List Item)
    → journal_current_mark journal ≤ journal_version_count journal
    → Waits setting (journal ++ machine_current_items setting journal)
current_waits setting journal there =
    let after : List Item = journal ++ machine_current_items setting journal in
    let more = grows journal (machine_current_items setting journal) ((parts_settle setting).rises journal) in
    let now : journal_current_mark after ≡ journal_next_current setting journal = current_is setting journal in
    elim (next_waits setting journal there) [
      | inl last ↦ inl (now ∙ last ∙ sym more.count)
      | inr none ↦ inr (rw now (fewer_pass _ (λ s. has_acked after s
          (journal_next_current setting journal + 1)) (is_member journal) (is_member after) (λ s. more.acked
          s (journal_next_current setting journal + 1)) more.member (machine_switches_of setting) none))
    ]

-- ---- joining switches are opened

open_keeps : (setting : Setting) (journal : List Item)
    → MarksStay journal (journal ++ machine_open_items setting journal)
unfolding machine_open_items
open_keeps setting journal = marks_sent _ journal (journal_next_message journal)

opened_all : (setting : Setting) (journal : List Item) → AllByRecursion
    (λ s. IsTrue (is_some (journal_opened_at (journal ++ machine_open_items setting journal) s)))
    (machine_opening_switches setting journal)
unfolding machine_open_items
opened_all setting journal = search (rules, all_opened)

none_joins : (setting : Setting) (journal : List Item) (s : ℕ)
    → s < length setting.net.switches → NoneJoins (journal ++ machine_open_items setting journal) s
none_joins setting journal s there joins = by_acked _ refl where
  after : List Item
  after = journal ++ machine_open_items setting journal

  more : Grows journal after
  more = grows journal (machine_open_items setting journal) ((parts_settle setting).opens journal)

  joined : IsTrue (is_joining journal s)
  joined = joining_was journal after s more joins

  same : has_acked after s (journal_current_mark after) ≡ has_acked journal s (journal_current_mark journal)
  same = cc ((open_keeps setting journal).current, more.acked s (journal_current_mark journal))

  both : (b c : Bool) → IsTrue b → c ≡ true → IsTrue (b && c)
  both true true is e = refl
  both true false is e = cc
  both false c is e = is

  not_member : IsTrue (is_member after s) → IsTrue (is_joining after s) → ⊥
  not_member member joins = none_and (not (is_over after s))
      (subst (λ m. IsTrue (not (is_over after s) && not m)) member joins)
    where
      none_and : (b : Bool) → IsTrue (b && false) → ⊥
      none_and true e = absurd cc
      none_and false e = absurd cc

  not_over : (o m : Bool) → IsTrue (not o && m) → IsFalse o
  not_over true m is = absurd cc
  not_over false m is = refl

  by_acked : (b : Bool) → has_acked journal s (journal_current_mark journal) ≡ b
      → IsFalse (has_acked after s (journal_current_mark after))
  by_acked false e = same ∙ e
  by_acked true e =
      let opened = each_in_range (λ t. IsTrue (is_some (journal_opened_at after t))) _ 0
      (length setting.net.switches) s (opened_all setting journal) (omega arith) (omega arith)
      (both (is_joining journal s) (has_acked journal s (journal_current_mark journal)) joined e) in
      absurd (not_member (member_of after s (not_over (is_over after s) _ joins) opened) joins)

-- ---- retired rises

collects_reopen : (journal : List Item) (base : List Item) (version : ℕ) (switches : List ℕ)
    → AllByRecursion (ReopensAlone journal) (map (machine_collect_for base version) switches)
collects_reopen journal base version [] = tt
collects_reopen journal base version (s ∷ switches) =
    (tt, collects_reopen journal base version switches)

retires : (setting : Setting) (journal : List Item) (version : ℕ)
    → version ≡ journal_next_retired setting journal → let retired = journal ++ Item.Retired version ∷ [] in
    let after = retired ++ machine_send_items retired
    (map (machine_collect_for journal version) (members setting journal)) in
    (journal_current_mark after ≡ journal_current_mark journal)
    × (journal_retired_mark after ≡ journal_next_retired setting after)
retires setting journal version is =
    let next : Item = Item.Retired version in
    let retired : List Item = journal ++ next ∷ [] in
    let collects : List Message = map (machine_collect_for journal version) (members setting journal) in
    let keeps = leaves_keep retired (machine_send_items retired collects) (sends_leave retired collects
    (collects_reopen retired journal version (members setting journal))) in
    let opened = λ (s : ℕ). opened_same journal next s (known_more journal next s) refl in
    let member = λ (s : ℕ). member_same journal retired s (over_more journal next s) (opened s) in
    let stamp = λ (s : ℕ).
    stamp_same journal retired s (told_more journal next) (known_more journal next s) (opened s) in
    let current : journal_current_mark retired ≡ journal_current_mark journal = current_more journal next in (
      keeps.current ∙ current,
      keeps.retired ∙ retired_more journal next ∙ is
          ∙ sym (next_same setting journal retired stamp member current)
          ∙ sym (next_same setting retired (retired ++ machine_send_items retired collects) keeps.stamp
          keeps.member keeps.current),
    )

retired_is : (setting : Setting) (journal : List Item)
    → let after = journal ++ machine_retired_items setting journal in
    journal_retired_mark after ≤ journal_next_retired setting after
    → (journal_current_mark after ≡ journal_current_mark journal)
    × (journal_retired_mark after ≡ journal_next_retired setting after)
unfolding machine_retired_items
retired_is setting journal = let version : ℕ = journal_next_retired setting journal in
    rise_cases (λ now. journal_retired_mark now ≤ journal_next_retired setting now
    → (journal_current_mark now ≡ journal_current_mark journal) × (journal_retired_mark now ≡ journal_next_retired setting now))
    setting journal (Item.Retired version) (machine_collect_for journal version)
    (nat_lt (journal_retired_mark journal) version) (λ e behind. (refl, grind (arith, nat_tests)))
    (λ behind. retires setting journal version refl)

-- ---- together

-- blocks in turn
pub in_three : (a b c : List Item → List Item) (journal : List Item)
    → let one = journal ++ a journal in let two = one ++ b one in
    journal ++ machine_blocks_in_turn (a ∷ b ∷ c ∷ []) journal ≡ two ++ c two
in_three a b c journal = search (rules, append_assoc)

pub settles : (setting : Setting) (journal : List Item)
    → journal_current_mark journal ≤ journal_version_count journal
    → let after = journal ++ machine_settling setting journal in
    journal_retired_mark after ≤ journal_next_retired setting after → AreMachineMarksSettled setting after
unfolding machine_settling
settles setting journal there = rw (in_three _ (machine_open_items setting) (machine_retired_items setting) journal)
    settled
  where
    one : List Item
    one = journal ++ machine_current_items setting journal

    two : List Item
    two = one ++ machine_open_items setting one

    three : List Item
    three = two ++ machine_retired_items setting two

    opens : Grows one two
    opens = grows one (machine_open_items setting one) ((parts_settle setting).opens one)

    ends : Grows two three
    ends = grows two (machine_retired_items setting two) ((parts_settle setting).retires two)

    settled : journal_retired_mark three ≤ journal_next_retired setting three → AreMachineMarksSettled setting three
    settled behind = let is = retired_is setting two behind in record {
      current = waits_on setting two three ends is.0 (waits_on setting one two opens
          (open_keeps setting one).current (current_waits setting journal there));
      joining = joins_on setting two three ends is.0 (All-from_recursion (NoneJoins two)
          (machine_switches_of setting) (each_range (NoneJoins two) 0 (length setting.net.switches)
          (λ s above below. none_joins setting one s (omega (arith, below)))));
      retired = is.1;
    }
