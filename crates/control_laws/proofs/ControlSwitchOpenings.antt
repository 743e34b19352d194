-- Items that have their causes keep what is known of openings and of switches that serve.
use Rattle.std.proofs.Common.{[], ◌++◌, ◌+◌, ◌-◌, ◌==◌, ◌∙◌, ◌∷◌, ◌≡◌, ◌≤◌, Bool, IsFalse, IsTrue, List, None, Option, Some, arith, eq-eqb, false, if◌then◌else◌, inl, inr, is_some, nat_lt, refl, ℕ, rules}
use Rattle.base.proofs.Exports.{AllByRecursion, each_append, nat_tests, option_map_or, range_with_len}
use Rattle.update_machine.specs.Exports.{JournalItemsHaveCauses, Item, Message, OpenAt, Setting, journal_boot_of, machine_collect_for, journal_controller_heard, journal_current_mark, machine_first_open, is_member, is_over, is_up, journal_known_boot, journal_message_of, journal_open_for, machine_open_sent, open_version, journal_opened_at, machine_resend_items, journal_resent_by_controller, journal_resent_by_switch, journal_resent_to_member, journal_retired_mark, machine_send_items, serves, journal_stamp_for, machine_message_to_switch, journal_unacked_installs, journal_version_count, journal_versions_from_current}
use Rattle.update_machine.proofs.Exports.{start_laws}
use Rattle.control_laws.specs.Exports.{ControlBootsArePast, HasControlItemCause, IsRightControlOpening, ControlOpeningMessagesNameOneVersion, ControlServingIsKnown}
use Rattle.control_laws.proofs.ControlFactsGrown.{AreKept, FromCauses, boot_more, boots_on, by_number, from_causes, known_more, opened_at_more, opened_in, opened_is, opened_more, over_more, raised, serving_more, told_past, up_more}

-- ---- what is sent again, by its parts: what the messages of each part have, its messages have

-- the versions after the current one
abbrev pub later_versions : List Item → List ℕ
later_versions journal =
    range_with_len (journal_current_mark journal + 1) (journal_version_count journal - journal_current_mark journal)

pub each_to_member : (P : Message → Type 0) (setting : Setting) (journal : List Item) (s : ℕ)
    → P (journal_open_for journal (open_version journal s) s)
    → AllByRecursion P (journal_unacked_installs setting journal s (later_versions journal))
    → P (journal_stamp_for setting journal (journal_current_mark journal) s)
    → ((journal_retired_mark journal == 0) ≡ false → P (machine_collect_for journal (journal_retired_mark journal) s))
    → AllByRecursion P (journal_resent_to_member setting journal s)
each_to_member P setting journal s opening tables stamp collect = search (rules, each_append)

pub each_by_controller : (P : Message → Type 0) (setting : Setting) (journal : List Item) (s : ℕ)
    → (IsFalse (is_over journal s) → IsTrue (is_member journal s)
    → AllByRecursion P (journal_resent_to_member setting journal s)) → (IsFalse (is_over journal s)
    → AllByRecursion P (journal_unacked_installs setting journal s (journal_versions_from_current journal)))
    → AllByRecursion P (journal_resent_by_controller setting journal s)
unfolding journal_resent_by_controller
each_by_controller P setting journal s to_member to_other = search rules

pub resent_has : (cause : List Item → Item → Type 0) (P : Message → Type 0) (setting : Setting)
    (s : ℕ) (journal : List Item) → cause journal Item.Nothing
    → ((messages : List Message) → AllByRecursion P messages
    → JournalItemsHaveCauses cause journal (machine_send_items journal messages))
    → AllByRecursion P (journal_resent_by_switch setting journal s)
    → AllByRecursion P (journal_resent_by_controller setting journal s)
    → JournalItemsHaveCauses cause journal (machine_resend_items setting s journal)
unfolding machine_resend_items
resent_has cause P setting s journal nothing sent by_switch by_controller =
    search (rules, each_append)

-- ---- switch openings

-- ---- members

pub member_parts : (journal : List Item) (s : ℕ) → IsTrue (is_member journal s)
    → IsFalse (is_over journal s) × IsTrue (is_some (journal_opened_at journal s))
unfolding is_member
member_parts journal s member = grind arith

pub member_of : (journal : List Item) (s : ℕ) → IsFalse (is_over journal s)
    → IsTrue (is_some (journal_opened_at journal s)) → IsTrue (is_member journal s)
unfolding is_member
member_of journal s none opened = search rules

-- ---- openings

-- each message that opens a switch is of the version at which it is opened in that boot
abbrev pub OpeningsStand : List Item → Type 0
OpeningsStand journal = (s boot version n : ℕ)
    → journal_message_of journal n ≡ Some (machine_message_to_switch s (OpenAt boot version))
    → opened_in journal s boot ≡ Some version

-- a switch that is opened stays opened at that version
pub opened_on : (before : List Item) (next : Item) (s boot version : ℕ) → opened_in before s boot
    ≡ Some version → opened_in (before ++ next ∷ []) s boot ≡ Some version
opened_on before next s boot version opened = rw (opened_more before next s boot, opened) refl

pub own_opening : (s boot version n : ℕ)
    → machine_first_open (machine_open_sent s boot (Item.Sent n (machine_message_to_switch s (OpenAt boot version)))) ≡ Some version
own_opening s boot version n = search (rules, eq-eqb)

pub new_opening : (before : List Item) (s boot version n : ℕ) → IsRightControlOpening before s boot version
    → opened_in (before ++ Item.Sent n (machine_message_to_switch s (OpenAt boot version)) ∷ []) s boot
    ≡ Some version
new_opening before s boot version n right =
    search (rules, opened_more, opened_is, own_opening, opened_on)

pub openings_on : (setting : Setting) (before : List Item) (next : Item) → HasControlItemCause setting
    before next → OpeningsStand before → OpeningsStand (before ++ next ∷ [])
openings_on setting before next cause stand s boot version n is = elim (by_number _ next n _ is) [
  | inl new ↦ rw new (new_opening before s boot version n (rw new at cause))
  | inr old ↦ opened_on before next s boot version (stand s boot version n old)
]

pub openings_at_first : OpeningsStand []
openings_at_first s boot version n is =
    let none : None ≡ Some (machine_message_to_switch s (OpenAt boot version)) =
    rw (start_laws.message n).message at is in absurd cc

pub one_opening : (journal : List Item) → OpeningsStand journal → ControlOpeningMessagesNameOneVersion journal
one_opening journal stand s boot one other m n first second =
    let a : opened_in journal s boot ≡ Some one = stand s boot one m first in
    let b : opened_in journal s boot ≡ Some other = stand s boot other n second in cc

-- ---- switches that serve

-- what is kept of them, item by item
pub record IsServing (journal : List Item) (s : ℕ) : Type 0 where
  pub up : IsTrue (serves journal s) → IsTrue (is_up journal s)
  pub known : IsTrue (serves journal s) → journal_known_boot journal s ≡ journal_boot_of journal s
  pub opened : IsTrue (serves journal s) → IsTrue (is_some (journal_opened_at journal s))
  pub not_over : IsTrue (is_up journal s) → journal_known_boot journal s ≡ journal_boot_of journal s
      → IsFalse (is_over journal s)

up_on : (setting : Setting) (before : List Item) (next : Item) (s : ℕ)
    → HasControlItemCause setting before next → (IsTrue (serves before s) → IsTrue (is_up before s))
    → IsTrue (serves (before ++ next ∷ []) s) → IsTrue (is_up (before ++ next ∷ []) s)
up_on setting before next s cause up serving = search (rules, nat_tests, serving_more, up_more)

-- a switch opens in its known boot, by a message of that boot
pub opening_known : (before : List Item) (s number version : ℕ) → ControlBootsArePast before
    → journal_message_of before number ≡ Some (machine_message_to_switch s (OpenAt (journal_boot_of before s) version))
    → journal_known_boot before s ≡ journal_boot_of before s
opening_known before s number version boots sent =
    let past = boots.sent number (machine_message_to_switch s (OpenAt (journal_boot_of before s) version)) sent in
    omega (arith, boots.known s)

-- no hello of a past boot raises the known one
not_raised : (boot : ℕ) (hello : Option ℕ) (own : ℕ) → boot ≡ own
    → ((of : ℕ) → hello ≡ Some of → of ≤ own) → raised boot hello ≡ boot
not_raised boot hello own same past = search rules

-- where the known boot of a switch is its own, a delivery leaves it so
pub delivery_known : (before : List Item) (s number : ℕ) → ControlBootsArePast before
    → journal_known_boot before s ≡ journal_boot_of before s
    → journal_known_boot (before ++ Item.Delivered number ∷ []) s ≡ journal_known_boot before s
delivery_known before s number boots same = search (rules, known_more, not_raised, told_past)

known_on : (setting : Setting) (before : List Item) (next : Item) (s : ℕ)
    → HasControlItemCause setting before next → ControlBootsArePast before → IsServing before s
    → IsTrue (serves (before ++ next ∷ []) s)
    → journal_known_boot (before ++ next ∷ []) s ≡ journal_boot_of (before ++ next ∷ []) s
known_on setting before next s cause boots kept serving =
    search (rules, nat_tests, opening_known, serving_more, known_more, boot_more, delivery_known)

-- a switch that was opened in its known boot stays so while that boot is the known one
pub still_opened : (before : List Item) (next : Item) (s : ℕ)
    → journal_known_boot (before ++ next ∷ []) s ≡ journal_known_boot before s
    → IsTrue (is_some (journal_opened_at before s)) → IsTrue (is_some (journal_opened_at (before ++ next ∷ []) s))
still_opened before next s same opened = search (rules, opened_at_more)

-- and a member stays one, unless it is over
pub member_on : (before : List Item) (next : Item) (s : ℕ) → journal_known_boot (before ++ next ∷ []) s
    ≡ journal_known_boot before s → is_over (before ++ next ∷ []) s ≡ is_over before s
    → IsTrue (is_member before s) → IsTrue (is_member (before ++ next ∷ []) s)
member_on before next s known over member = let parts = member_parts before s member in
    member_of (before ++ next ∷ []) s (over ∙ parts.0) (still_opened before next s known parts.1)

opened_here : (before : List Item) (s number version : ℕ) → ControlBootsArePast before
    → OpeningsStand before
    → journal_message_of before number ≡ Some (machine_message_to_switch s (OpenAt (journal_boot_of before s) version))
    → IsTrue (is_some (journal_opened_at before s))
opened_here before s number version boots stand sent = search (rules, opened_is, opening_known)

opened_serving : (setting : Setting) (before : List Item) (next : Item) (s : ℕ)
    → HasControlItemCause setting before next → ControlBootsArePast before → OpeningsStand before
    → IsServing before s → IsTrue (serves (before ++ next ∷ []) s)
    → IsTrue (is_some (journal_opened_at (before ++ next ∷ []) s))
opened_serving setting before next s cause boots stand kept serving =
    search (rules, nat_tests, opened_here, still_opened, known_more, serving_more, delivery_known)

-- ---- switches that are over

by_raise : (boot : ℕ) (hello : Option ℕ) (over : Bool) → (raised boot hello ≡ boot → IsFalse over)
    → IsFalse (if option_map_or (λ of. nat_lt boot of) hello false then false else over)
by_raise boot hello over none = search (rules, nat_tests)

not_over_on : (setting : Setting) (before : List Item) (next : Item) (s : ℕ)
    → HasControlItemCause setting before next → ControlBootsArePast before → IsServing before s
    → IsTrue (is_up (before ++ next ∷ []) s)
    → journal_known_boot (before ++ next ∷ []) s ≡ journal_boot_of (before ++ next ∷ []) s
    → IsFalse (is_over (before ++ next ∷ []) s)
not_over_on setting before next s cause boots kept up same =
    search (rules, nat_tests, up_more, known_more, boot_more, over_more)

-- ---- together

-- what is known of boots, openings and switches that serve
pub record IsKnown (journal : List Item) : Type 0 where
  pub boots : ControlBootsArePast journal
  pub openings : OpeningsStand journal
  pub serving : (s : ℕ) → IsServing journal s

pub known_kept : (setting : Setting) → AreKept (HasControlItemCause setting) IsKnown
known_kept setting before next cause known = record {
  boots = boots_on setting before next cause known.boots;
  openings = openings_on setting before next cause known.openings;
  serving = λ s. record {
    up = up_on setting before next s cause (known.serving s).up;
    known = known_on setting before next s cause known.boots (known.serving s);
    opened = opened_serving _ before next s cause known.boots known.openings (known.serving s);
    not_over = not_over_on setting before next s cause known.boots (known.serving s);
  };
}

first_opened : (s : ℕ) → IsTrue (is_some (journal_opened_at [] s))
unfolding journal_opened_at journal_known_boot journal_controller_heard
first_opened s = refl

pub known_at_first : IsKnown []
known_at_first = search (rules, start_laws, first_opened)

pub caused_known : FromCauses (λ setting. IsKnown)
caused_known = from_causes (λ setting. IsKnown) known_kept (λ setting. known_at_first)

pub serving_known : (journal : List Item) → IsKnown journal → ControlServingIsKnown journal
serving_known journal known = record {
  up = λ s. (known.serving s).up;
  known = λ s. (known.serving s).known;
  member = λ s serving. member_of journal s
      ((known.serving s).not_over ((known.serving s).up serving) ((known.serving s).known serving))
      ((known.serving s).opened serving);
  not_over = λ s. (known.serving s).not_over;
}
