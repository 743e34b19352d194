-- Items that don't concern the controller leave what it knows as it is.
use Rattle.std.proofs.Common.{[], ◌++◌, ◌+◌, ◌≡◌, IsFalse, List, None, ap, append-nil, arith, false, refl, ℕ}
use Rattle.update_machine.specs.Exports.{Body, JournalControllerKeeps, Item, NoMachineItemConcerns, OpenAt, acked_stamp, journal_body_to_controller, machine_changes_controller_heard, machine_item_changes_over, machine_item_concerns_controller, journal_controller_heard, journal_current_mark, machine_item_gives_current, machine_item_gives_retired, has_acked, is_member, is_journal_controller_message, is_machine_opening_body, is_over, is_journal_submission, journal_known_boot, machine_open_version_in, machine_open_sent, journal_opened_at, journal_retired_mark, journal_version_count}
use Rattle.update_machine.proofs.JournalSilentSteps.{Keeps, Silent, Stays, count_stays, folded_stays, given_stays, last_or_stays}

-- a message for a switch says nothing to the controller
told_nothing : (before : List Item) (number : ℕ) → IsFalse (is_journal_controller_message before number)
    → journal_body_to_controller before number ≡ None
told_nothing before number apart = grind arith

told_silent : Keeps machine_item_concerns_controller machine_changes_controller_heard
told_silent before bodies (Item.Delivered number) apart = rw (told_nothing before number apart)
    (append-nil bodies)
told_silent before bodies _ apart = refl

over_silent : (s : ℕ) → Keeps machine_item_concerns_controller (machine_item_changes_over s)
over_silent s before over (Item.Delivered number) apart = rw (told_nothing before number apart) refl
over_silent s before over (Item.OverNow switch) apart = cc
over_silent s before over _ apart = refl

-- a body that opens no switch
closed_body : (boot : ℕ) (body : Body) → IsFalse (is_machine_opening_body body) → machine_open_version_in boot body ≡ []
closed_body boot (OpenAt of version) apart = cc
closed_body boot _ apart = refl

open_silent : (s boot : ℕ) → Silent machine_item_concerns_controller (machine_open_sent s boot) []
open_silent s boot before (Item.Sent number message) apart =
    let none : machine_open_version_in boot message.body ≡ [] = closed_body boot message.body apart in grind arith
open_silent s boot before _ apart = refl

current_silent : Silent machine_item_concerns_controller machine_item_gives_current None
current_silent before (Item.Current version) apart = cc
current_silent before _ apart = refl

retired_silent : Silent machine_item_concerns_controller machine_item_gives_retired None
retired_silent before (Item.Retired version) apart = cc
retired_silent before _ apart = refl

submission_silent : Silent machine_item_concerns_controller is_journal_submission false
submission_silent before (Item.Submitted file version) apart = cc
submission_silent before _ apart = refl

known_stays : (s : ℕ) → Stays machine_item_concerns_controller (λ js. journal_known_boot js s)
unfolding journal_known_boot journal_controller_heard
known_stays s before items none = rw (folded_stays _ [] _ told_silent before items none) refl

opened_stays : (s : ℕ) → Stays machine_item_concerns_controller (λ js. journal_opened_at js s)
unfolding journal_opened_at
opened_stays s before items none =
    let sent = given_stays _ _ (open_silent s (journal_known_boot before s)) before items none in
    rw ((known_stays s before items none), sent) refl

pub controller_keeps : (before items : List Item) → NoMachineItemConcerns machine_item_concerns_controller before items
    → JournalControllerKeeps before (before ++ items)
unfolding journal_controller_heard is_over is_member has_acked acked_stamp journal_current_mark journal_retired_mark
    journal_version_count
controller_keeps before items none =
    let told = folded_stays _ [] _ told_silent before items none in
    let known : (s : ℕ) → journal_known_boot (before ++ items) s ≡ journal_known_boot before s =
    λ s. known_stays s before items none in
    let over : (s : ℕ) → is_over (before ++ items) s ≡ is_over before s =
    λ s. folded_stays _ false _ (over_silent s) before items none in
    let opened : (s : ℕ) → journal_opened_at (before ++ items) s ≡ journal_opened_at before s =
    λ s. opened_stays s before items none in record {
      heard = told;
      known = known;
      over = over;
      opened = opened;
      member = λ s. rw (over s, opened s) refl;
      acked = λ s v. rw (known s, told) refl;
      stamp = λ s. rw (known s, told, opened s) refl;
      current = last_or_stays _ 1 _ current_silent before items none;
      retired = last_or_stays _ 0 _ retired_silent before items none;
      count = ap (λ k. k + 1) (count_stays _ _ submission_silent before items none);
    }
