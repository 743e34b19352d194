-- Acknowledgements of one kind, of tables or of stamps: what is acknowledged in a boot stays true
-- while the switch is up in it.
use Rattle.std.proofs.Common.{[], ◌++◌, ◌<◌, ◌==◌, ◌∷◌, ◌≡◌, ◌≤◌, Bool, IfSome, IsFalse, IsTrue, List, None, Option, Some, ap, arith, false, inl, inr, max, option_and_then, option_to_list, refl, subst, sym, true, ℕ, rules}
use Rattle.base.proofs.Exports.{AllByRecursion, cases_lt, each_append, each_option, list_any, list_any-append, nat_tests}
use Rattle.update_machine.specs.Exports.{AreMachineMarksSettled, Body, Hello, Installed, Item, Setting, Stamped, acked_stamp, journal_body_to_controller, journal_boot_of, journal_controller_heard, journal_current_mark, has_acked, heard, machine_installed_version, machine_body_installs_version, is_member, is_over, is_up, journal_known_boot, journal_message_of, journal_next_retired, journal_opened_at, journal_retired_mark, machine_speaking_in_body, journal_stamp_of, machine_stamped_version_in}
use Rattle.control_laws.specs.Exports.{ControlBootsArePast, HasControlItemCause, IsControlSenderPresent, IsRightControlMessageFrom}
use Rattle.control_laws.proofs.ControlFactsGrown.{boot_more, boot_rises, by_number, heard_more, raised_up, stamp_told, up_more}
use Rattle.ctrl_msg.specs.Exports.{message_to_controller}
use Rattle.update_machine.proofs.Exports.{open_net, start_laws}
use Rattle.control_laws.proofs.ControlSaidToController.{each_weaker, tells, told_by, told_by_more, told_sent}

-- ---- what a switch keeps within a boot

abbrev pub is_delivered : Item → Bool
is_delivered (Item.Delivered number) = true
is_delivered _ = false

-- the item ends a boot of the switch, or begins one
abbrev pub turns : ℕ → Item → Bool
turns s (Item.Down t) = t == s
turns s (Item.Booted t boot) = t == s
turns s _ = false

-- a switch that is up in a boot that isn't new was so before, and its boot goes on
pub record GoesOn (before : List Item) (next : Item) (s boot : ℕ) : Type 0 where
  pub up : IsTrue (is_up before s)
  pub own : boot ≡ journal_boot_of before s
  pub same : IsFalse (turns s next)

pub goes_on : (setting : Setting) (before : List Item) (next : Item) (s boot : ℕ)
    → HasControlItemCause setting before next → boot ≤ journal_boot_of before s
    → IsTrue (is_up (before ++ next ∷ []) s) → boot ≡ journal_boot_of (before ++ next ∷ []) s
    → GoesOn before next s boot
goes_on setting before next s boot cause past up own = search (rules, nat_tests, up_more, boot_more)

-- what it heard it keeps
pub heard_kept : (test : Body → Bool) (before : List Item) (next : Item) (s : ℕ)
    → IsFalse (turns s next) → IsTrue (list_any test (heard before s))
    → IsTrue (list_any test (heard (before ++ next ∷ []) s))
heard_kept test before next s same any = search (rules, heard_more, list_any-append)

stamp_delivered : (before : List Item) (number s : ℕ)
    → journal_stamp_of before s ≤ journal_stamp_of (before ++ Item.Delivered number ∷ []) s
stamp_delivered before number s = search (rules, stamp_told, raised_up)

-- and its stamp never falls
pub stamp_kept : (before : List Item) (next : Item) (s : ℕ) → IsFalse (turns s next)
    → journal_stamp_of before s ≤ journal_stamp_of (before ++ next ∷ []) s
unfolding journal_stamp_of
stamp_kept before next s same = search (rules, heard_more, boot_more, up_more, stamp_delivered)

-- an item that is no delivery gives it no stamp but the first one
pub stamp_less : (before : List Item) (next : Item) (s : ℕ) → IsFalse (is_delivered next)
    → journal_stamp_of (before ++ next ∷ []) s ≤ max 1 (journal_stamp_of before s)
unfolding journal_stamp_of
stamp_less before next s none = search (rules, heard_more, boot_more, up_more)

-- ---- acknowledgement kinds

-- the bodies by which a switch acknowledges versions in a boot, and what it acknowledges
pub record AckKind : Type 1 where
  pub writes : ℕ → ℕ → ℕ → Body
  pub reads : ℕ → ℕ → Body → Option ℕ
  pub Holds : List Item → ℕ → ℕ → Type 0
  pub is : (s boot : ℕ) (body : Body) (version : ℕ) → reads s boot body ≡ Some version
      → body ≡ writes s boot version
  pub speaks : (s boot version : ℕ) → machine_speaking_in_body (writes s boot version) ≡ Some (s, boot)
  pub right : (before : List Item) (s boot version : ℕ) → IsRightControlMessageFrom before (writes s boot version)
      → IsControlSenderPresent before s boot × Holds before s version
  pub kept : (before : List Item) (next : Item) (s version : ℕ) → IsFalse (turns s next)
      → Holds before s version → Holds (before ++ next ∷ []) s version

-- what was sent or told of the boot that lasts is so; nothing was told of a boot to come
pub record AreTrue (kind : AckKind) (journal : List Item) : Type 0 where
  pub sent : (s boot version n : ℕ)
      → journal_message_of journal n ≡ Some (message_to_controller (kind.writes s boot version))
      → IsTrue (is_up journal s) → boot ≡ journal_boot_of journal s → kind.Holds journal s version
  pub told : (s : ℕ) → IsTrue (is_up journal s)
      → AllByRecursion (kind.Holds journal s) (told_by (kind.reads s (journal_boot_of journal s)) journal)
  pub past : (s boot : ℕ) → journal_boot_of journal s < boot → told_by (kind.reads s boot) journal ≡ []

-- no acknowledgement is of a boot to come
past_sent : (kind : AckKind) (before : List Item) (s boot version n : ℕ) → ControlBootsArePast before
    → journal_message_of before n ≡ Some (message_to_controller (kind.writes s boot version))
    → boot ≤ journal_boot_of before s
past_sent kind before s boot version n boots sent = rw (kind.speaks s boot version) at
    (boots.sent n (message_to_controller (kind.writes s boot version)) sent)

sent_on : (kind : AckKind) (setting : Setting) (before : List Item) (next : Item)
    (s boot version n : ℕ) → HasControlItemCause setting before next → ControlBootsArePast before
    → AreTrue kind before
    → journal_message_of (before ++ next ∷ []) n ≡ Some (message_to_controller (kind.writes s boot version))
    → IsTrue (is_up (before ++ next ∷ []) s) → boot ≡ journal_boot_of (before ++ next ∷ []) s
    → kind.Holds (before ++ next ∷ []) s version
sent_on kind setting before next s boot version n cause boots fact is up own =
    elim (by_number before next n (message_to_controller (kind.writes s boot version)) is) [
      | inl new ↦ kind.kept before next s version (ap (turns s) new)
          (kind.right before s boot version (subst (HasControlItemCause setting before) new cause)).1
      | inr old ↦ let on = goes_on _ _ _ s _ cause (past_sent kind _ s boot _ n boots old) up own in
          kind.kept before next s version on.same (fact.sent s boot version n old on.up on.own)
    ]

-- a told acknowledgement was sent
ack_sent : (kind : AckKind) (before : List Item) (s boot number version : ℕ)
    → option_and_then (kind.reads s boot) (journal_body_to_controller before number) ≡ Some version
    → journal_message_of before number ≡ Some (message_to_controller (kind.writes s boot version))
ack_sent kind before s boot number version told = search (rules, told_sent)

-- what an item says about the boot that lasts is true
tells_true : (kind : AckKind) (before : List Item) (next : Item) (s boot : ℕ)
    → AreTrue kind before → IsTrue (is_up before s) → boot ≡ journal_boot_of before s
    → AllByRecursion (kind.Holds before s) (tells (kind.reads s boot) before next)
tells_true kind before next s boot fact up own = search (rules, each_option, ack_sent)

-- and of a boot to come it tells nothing
tells_past : (kind : AckKind) (before : List Item) (next : Item) (s boot : ℕ)
    → ControlBootsArePast before → journal_boot_of before s < boot → tells (kind.reads s boot) before next ≡ []
tells_past kind before (Item.Delivered number) s boot boots past = by_told _ refl where
  by_told : (o : Option ℕ) → option_and_then (kind.reads s boot) (journal_body_to_controller before number)
      ≡ o → option_to_list o ≡ []
  by_told None e = refl
  by_told (Some version) e =
      let earlier = past_sent kind _ s boot _ _ boots (ack_sent kind before s boot number _ e) in
      absurd (omega (arith, past, earlier))
tells_past kind before _ s boot boots past = refl

past_on : (kind : AckKind) (setting : Setting) (before : List Item) (next : Item) (s boot : ℕ)
    → HasControlItemCause setting before next → ControlBootsArePast before → AreTrue kind before
    → journal_boot_of (before ++ next ∷ []) s < boot
    → told_by (kind.reads s boot) (before ++ next ∷ []) ≡ []
past_on kind setting before next s boot cause boots fact past =
    search (rules, boot_rises, told_by_more, tells_past)

told_on : (kind : AckKind) (setting : Setting) (before : List Item) (next : Item) (s : ℕ)
    → HasControlItemCause setting before next → ControlBootsArePast before → AreTrue kind before
    → IsTrue (is_up (before ++ next ∷ []) s) → AllByRecursion (kind.Holds (before ++ next ∷ []) s)
    (told_by (kind.reads s (journal_boot_of (before ++ next ∷ []) s)) (before ++ next ∷ []))
told_on kind setting before next s cause boots fact up =
    let boot : ℕ = journal_boot_of (before ++ next ∷ []) s in
    let Holds : ℕ → Type 0 = kind.Holds (before ++ next ∷ []) s in
    let more : told_by (kind.reads s boot) (before ++ next ∷ [])
    ≡ told_by (kind.reads s boot) before ++ tells (kind.reads s boot) before next =
    told_by_more (kind.reads s boot) before next in
    let none : journal_boot_of before s < boot → told_by (kind.reads s boot) (before ++ next ∷ []) ≡ [] =
    λ new. cc (more, fact.past s boot new, tells_past kind before next s boot boots new) in
    let by_going : GoesOn before next s boot → AllByRecursion Holds
    (told_by (kind.reads s boot) before ++ tells (kind.reads s boot) before next) = λ on.
    each_append Holds (told_by (kind.reads s boot) before) (tells (kind.reads s boot) before next)
    (each_weaker (kind.Holds before s) Holds (λ version. kind.kept before next s version on.same)
    (told_by (kind.reads s boot) before) (rw on.own (fact.told s on.up)))
    (each_weaker (kind.Holds before s) Holds (λ version. kind.kept before next s version on.same)
    (tells (kind.reads s boot) before next)
    (tells_true kind before next s boot fact on.up on.own)) in
    elim (cases_lt (journal_boot_of before s) (journal_boot_of (before ++ next ∷ []) s)) [
      | inl new ↦ subst (AllByRecursion Holds) (sym (none new)) tt
      | inr old ↦ rw more (by_going (goes_on setting before next s boot cause old up refl))
    ]

pub true_on : (kind : AckKind) (setting : Setting) (before : List Item) (next : Item)
    → HasControlItemCause setting before next → ControlBootsArePast before → AreTrue kind before
    → AreTrue kind (before ++ next ∷ [])
true_on kind setting before next cause boots fact = record {
  sent = λ s boot version n is up own. sent_on kind _ _ next s boot _ n cause boots fact is up own;
  told = λ s up. told_on kind setting before next s cause boots fact up;
  past = λ s boot past. past_on kind setting before next s boot cause boots fact past;
}

-- nothing is told or sent at first
pub true_at_first : (kind : AckKind) → AreTrue kind []
unfolding journal_controller_heard
true_at_first kind = search (rules, start_laws)

-- ---- the two kinds

pub installed_is : (s boot : ℕ) (body : Body) (version : ℕ)
    → machine_installed_version s boot body ≡ Some version → body ≡ Installed s boot version
installed_is s boot body version e = search (rules, nat_tests)

pub stamped_is : (s boot : ℕ) (body : Body) (version : ℕ) → machine_stamped_version_in s boot body ≡ Some version
    → body ≡ Stamped s boot version
stamped_is s boot body version e = search (rules, nat_tests)

-- it heard these tables in its boot
abbrev pub of_tables : AckKind
of_tables = record {
  writes = Installed;
  reads = machine_installed_version;
  Holds = λ journal s version. IsTrue (list_any (machine_body_installs_version version) (heard journal s));
  is = installed_is;
  speaks = λ s boot version. refl;
  right = λ before s boot version right. (right.present, right.heard);
  kept = λ before next s version same here. heard_kept (machine_body_installs_version version) before next s same
      here;
}

-- it stamps at least with this version
abbrev pub of_stamps : AckKind
of_stamps = record {
  writes = Stamped;
  reads = machine_stamped_version_in;
  Holds = λ journal s version. version ≤ journal_stamp_of journal s;
  is = stamped_is;
  speaks = λ s boot version. refl;
  right = λ before s boot version right. (right.present, right.stamps);
  kept = λ before next s version same here. omega (arith, here, stamp_kept before next s same);
}

-- ---- marks that aren't settled, computed on two switches

-- in its second boot switch 0 acknowledged the current version, and isn't opened
abbrev joining : List Item
joining = Item.Down 0 ∷ Item.Booted 0 2 ∷ Item.Sent 1 (message_to_controller (Hello 0 2)) ∷ Item.Delivered 1
    ∷ Item.Sent 2 (message_to_controller (Installed 0 2 1)) ∷ Item.Delivered 2 ∷ []

not_unopened : AreMachineMarksSettled open_net joining → ⊥
unfolding journal_controller_heard journal_current_mark has_acked is_member is_over journal_known_boot journal_message_of journal_opened_at
not_unopened settled = let no : true ≡ false = settled.joining 0 0 (omega arith) refl in cc

-- both switches stamp with version 2, and version 1 isn't retired
abbrev stamped : List Item
stamped = Item.Submitted 2 2 ∷ Item.Sent 1 (message_to_controller (Installed 0 1 2))
    ∷ Item.Sent 2 (message_to_controller (Installed 1 1 2)) ∷ Item.Delivered 1 ∷ Item.Delivered 2
    ∷ Item.Current 2 ∷ Item.Sent 3 (message_to_controller (Stamped 0 1 2))
    ∷ Item.Sent 4 (message_to_controller (Stamped 1 1 2)) ∷ Item.Delivered 3 ∷ Item.Delivered 4 ∷ []

not_unretired : AreMachineMarksSettled open_net stamped → ⊥
unfolding journal_controller_heard journal_current_mark is_member is_over journal_known_boot journal_message_of journal_opened_at acked_stamp
    journal_retired_mark journal_next_retired
not_unretired settled = let no : 0 ≡ 1 = settled.retired in omega (arith, no)
