-- What one more item makes of each fact of switches, messages and the controller.
use Rattle.std.proofs.Common.{[], ◌++◌, ◌+◌, ◌<◌, ◌==◌, ◌||◌, ◌∙◌, ◌∷◌, ◌≡◌, ◌≤◌, ◌⊎◌, Bool, IsTrue, List, None, Option, Some, ap, append-nil, append_assoc, arith, eq-eqb, eqb-true, false, filter_map, fold, if◌then◌else◌, inl, inr, max, nat_lt, option_and_then, option_to_list, refl, subst, sym, true, unwrap_or, zero-add, ℕ}
use Rattle.base.proofs.Exports.{IfSome_then, filter_map-append, fold-append, nat_tests, option_map_or, option_or}
use Rattle.update_machine.specs.Exports.{Advertise, Body, CacheRule, JournalItemsHaveCauses, Hello, Installed, Item, Message, OpenAt, Place, Setting, Stamped, Step, journal_all_given, journal_body_to_controller, journal_body_to_switch, journal_boot_of, machine_changes_controller_heard, changes_journal_heard, machine_item_changes_over, journal_controller_heard, machine_count_of, journal_current_mark, machine_first_open, journal_first_stamp, machine_item_gives_boot, machine_item_gives_current, machine_item_gives_message, machine_item_gives_retired, machine_item_gives_serving, machine_item_gives_switch_up, machine_greatest_stamp_number, heard, machine_hello_boot, is_over, is_journal_submission, is_up, journal_known_boot, journal_last_given, journal_message_of, machine_open_sent, journal_opened_at, piece, journal_raises_known_boot, journal_retired_mark, serves, machine_speaking_in_body, machine_version_to_stamp_with, journal_stamp_of, machine_step_items, machine_message_to_switch, journal_version_count}
use Rattle.update_machine.proofs.Exports.{all_given_append, count_of_append, folded_append, have_first, last_given_append, start_laws}
pub use Rattle.update_machine.proofs.UpdateMachineCallerLemmas.{steps_have}
use Rattle.control_laws.specs.Exports.{ControlBootsArePast, HasControlItemCause, ControlHasPastBoot, IsRightControlMessage}
use Rattle.ctrl_msg.specs.Exports.{body_boot, message_to_controller}

-- the last item tells, or else those before it
pub last_more : {X : Type 0} (tells : Item → Option X) (before : List Item) (item : Item)
    (other : X) → unwrap_or (journal_last_given tells (before ++ item ∷ [])) other
    ≡ unwrap_or (tells item) (unwrap_or (journal_last_given tells before) other)
last_more {X = X} tells before item other = ap (λ o. unwrap_or o other)
    (last_given_append tells before (item ∷ [])) ∙ by_told (tells item) (journal_last_given tells before)
  where
    by_told : (now earlier : Option X) → unwrap_or (option_or now earlier) other
        ≡ unwrap_or now (unwrap_or earlier other)
    by_told None earlier = refl
    by_told (Some x) earlier = refl

pub boot_more : (before : List Item) (item : Item) (s : ℕ)
    → journal_boot_of (before ++ item ∷ []) s ≡ unwrap_or (machine_item_gives_boot s item) (journal_boot_of before s)
unfolding journal_boot_of
boot_more before item s = last_more (machine_item_gives_boot s) before item 1

pub up_more : (before : List Item) (item : Item) (s : ℕ)
    → is_up (before ++ item ∷ []) s ≡ unwrap_or (machine_item_gives_switch_up s item) (is_up before s)
unfolding is_up
up_more before item s = last_more (machine_item_gives_switch_up s) before item true

pub serving_more : (before : List Item) (item : Item) (s : ℕ)
    → serves (before ++ item ∷ []) s ≡ unwrap_or (machine_item_gives_serving s item) (serves before s)
unfolding serves
serving_more before item s = last_more (machine_item_gives_serving s) before item true

pub current_more : (before : List Item) (item : Item)
    → journal_current_mark (before ++ item ∷ []) ≡ unwrap_or (machine_item_gives_current item) (journal_current_mark before)
unfolding journal_current_mark
current_more before item = last_more machine_item_gives_current before item 1

pub retired_more : (before : List Item) (item : Item)
    → journal_retired_mark (before ++ item ∷ []) ≡ unwrap_or (machine_item_gives_retired item) (journal_retired_mark before)
unfolding journal_retired_mark
retired_more before item = last_more machine_item_gives_retired before item 0

-- a count from one, with one more item
pub counted_more : (test : Item → Bool) (before : List Item) (item : Item)
    → machine_count_of test (before ++ item ∷ []) + 1
    ≡ (if test item then machine_count_of test before + 1 + 1 else machine_count_of test before + 1)
counted_more test before item = by_test (test item) refl where
  by_test : (b : Bool) → test item ≡ b → machine_count_of test (before ++ item ∷ []) + 1
      ≡ (if b then machine_count_of test before + 1 + 1 else machine_count_of test before + 1)
  by_test true e = let one : machine_count_of test (item ∷ []) ≡ 1 = rw e refl in
      omega (arith, one, count_of_append test before (item ∷ []))
  by_test false e = let none : machine_count_of test (item ∷ []) ≡ 0 = rw e refl in
      omega (arith, none, count_of_append test before (item ∷ []))

-- whether some item passes a test, with one more item
pub some_more : (test : Item → Bool) (before : List Item) (item : Item) → nat_lt 0
    (machine_count_of test (before ++ item ∷ [])) ≡ (test item || nat_lt 0 (machine_count_of test before))
some_more test before item = by_test (test item) refl where
  by_test : (b : Bool) → test item ≡ b → nat_lt 0 (machine_count_of test (before ++ item ∷ []))
      ≡ (b || nat_lt 0 (machine_count_of test before))
  by_test b is = grind (arith, nat_tests, count_of_append test before (item ∷ []))

pub count_more : (before : List Item) (item : Item) → journal_version_count (before ++ item ∷ [])
    ≡ (if is_journal_submission item then journal_version_count before + 1 else journal_version_count before)
unfolding journal_version_count
count_more before item = counted_more is_journal_submission before item

pub message_more : (before : List Item) (item : Item) (n : ℕ)
    → journal_message_of (before ++ item ∷ []) n ≡ option_or (machine_item_gives_message n item) (journal_message_of before n)
unfolding journal_message_of
message_more before item n = last_given_append (machine_item_gives_message n) before (item ∷ [])

pub heard_more : (before : List Item) (item : Item) (s : ℕ)
    → heard (before ++ item ∷ []) s ≡ changes_journal_heard s before (heard before s) item
unfolding heard
heard_more before item s = folded_append (changes_journal_heard s) [] before (item ∷ [])

pub told_more : (before : List Item) (item : Item) → journal_controller_heard (before ++ item ∷ [])
    ≡ machine_changes_controller_heard before (journal_controller_heard before) item
unfolding journal_controller_heard
told_more before item = folded_append machine_changes_controller_heard [] before (item ∷ [])

pub over_more : (before : List Item) (item : Item) (s : ℕ)
    → is_over (before ++ item ∷ []) s ≡ machine_item_changes_over s before (is_over before s) item
unfolding is_over
over_more before item s = folded_append (machine_item_changes_over s) false before (item ∷ [])

pub sent_more : (before : List Item) (item : Item) (s boot : ℕ) → journal_all_given (machine_open_sent s boot)
    (before ++ item ∷ []) ≡ journal_all_given (machine_open_sent s boot) before ++ machine_open_sent s boot item
sent_more before item s boot = all_given_append (machine_open_sent s boot) before (item ∷ [])
    ∙ ap (λ xs. journal_all_given (machine_open_sent s boot) before ++ xs) (append-nil (machine_open_sent s boot item))

-- ---- the known boot

-- the boot of a hello of the switch that an item delivers
abbrev pub hello_told : ℕ → List Item → Item → Option ℕ
hello_told s before (Item.Delivered number) =
    option_and_then (machine_hello_boot s) (journal_body_to_controller before number)
hello_told s before _ = None

abbrev pub raised : ℕ → Option ℕ → ℕ
raised boot None = boot
raised boot (Some hello) = max boot hello

pub known_more : (before : List Item) (item : Item) (s : ℕ)
    → journal_known_boot (before ++ item ∷ []) s ≡ raised (journal_known_boot before s) (hello_told s before item)
unfolding journal_known_boot
known_more before (Item.Delivered number) s =
    cc (told_more before (Item.Delivered number), by_said (journal_body_to_controller before number))
  where
    by_said : (said : Option Body)
        → fold max 1 (filter_map (machine_hello_boot s) (journal_controller_heard before ++ option_to_list said))
        ≡ raised (fold max 1 (filter_map (machine_hello_boot s) (journal_controller_heard before)))
        (option_and_then (machine_hello_boot s) said)
    by_said None = cc (append-nil (journal_controller_heard before))
    by_said (Some body) =
        ap (fold max 1) (filter_map-append (machine_hello_boot s) (journal_controller_heard before) (body ∷ []))
        ∙ fold-append max 1 (filter_map (machine_hello_boot s) (journal_controller_heard before))
        (filter_map (machine_hello_boot s) (body ∷ [])) ∙ by_hello (machine_hello_boot s body) refl
      where
        by_hello : (hello : Option ℕ) → machine_hello_boot s body ≡ hello →
            fold max (fold max 1 (filter_map (machine_hello_boot s) (journal_controller_heard before)))
            (filter_map (machine_hello_boot s) (body ∷ []))
            ≡ raised (fold max 1 (filter_map (machine_hello_boot s) (journal_controller_heard before))) hello
        by_hello None e = rw e refl
        by_hello (Some boot) e = rw e refl
known_more before item s = cc (told_more before item)

-- ---- the stamp

-- a body that is heard raises the stamp to its version, if it has one
pub stamp_told : (before : List Item) (n s : ℕ) → journal_stamp_of (before ++ Item.Delivered n ∷ []) s
    ≡ raised (journal_stamp_of before s) (option_and_then machine_version_to_stamp_with (journal_body_to_switch before s n))
unfolding journal_stamp_of
stamp_told before n s =
    let bodies : heard (before ++ Item.Delivered n ∷ []) s
    ≡ option_map_or (λ body. heard before s ++ body ∷ []) (journal_body_to_switch before s n)
    (heard before s) = heard_more before (Item.Delivered n) s in
    rw ((boot_more before (Item.Delivered n) s), up_more before (Item.Delivered n) s, bodies)
    (by_said (journal_body_to_switch before s n))
  where
    by_said : (said : Option Body) → machine_greatest_stamp_number (journal_first_stamp before s ++ filter_map machine_version_to_stamp_with
        (option_map_or (λ body. heard before s ++ body ∷ []) said (heard before s)))
        ≡ raised (machine_greatest_stamp_number (journal_first_stamp before s ++ filter_map machine_version_to_stamp_with (heard before s)))
        (option_and_then machine_version_to_stamp_with said)
    by_said None = refl
    by_said (Some body) =
        ap (λ xs. machine_greatest_stamp_number (journal_first_stamp before s ++ xs)) (filter_map-append machine_version_to_stamp_with
        (heard before s) (body ∷ [])) ∙ ap machine_greatest_stamp_number (sym (append_assoc (journal_first_stamp before s)
        (filter_map machine_version_to_stamp_with (heard before s)) (filter_map machine_version_to_stamp_with (body ∷ [])))) ∙ fold-append max
        0 (journal_first_stamp before s ++ filter_map machine_version_to_stamp_with (heard before s))
        (filter_map machine_version_to_stamp_with (body ∷ [])) ∙ by_stamp (machine_version_to_stamp_with body) refl
      where
        by_stamp : (stamp : Option ℕ) → machine_version_to_stamp_with body ≡ stamp → fold max
            (machine_greatest_stamp_number (journal_first_stamp before s ++ filter_map machine_version_to_stamp_with (heard before s)))
            (filter_map machine_version_to_stamp_with (body ∷ [])) ≡ raised
            (machine_greatest_stamp_number (journal_first_stamp before s ++ filter_map machine_version_to_stamp_with (heard before s))) stamp
        by_stamp None e = rw e refl
        by_stamp (Some version) e = rw e refl

-- ---- openings

-- the version at which the switch is opened in a boot, if it is
unfoldable pub opened_in : List Item → ℕ → ℕ → Option ℕ
opened_in journal s boot = if boot == 1 then Some 1
    else machine_first_open (journal_all_given (machine_open_sent s boot) journal)

pub opened_is : (journal : List Item) (s : ℕ) → journal_opened_at journal s ≡ opened_in journal s
    (journal_known_boot journal s)
unfolding journal_opened_at opened_in
opened_is journal s = refl

pub opened_more : (before : List Item) (item : Item) (s boot : ℕ)
    → opened_in (before ++ item ∷ []) s boot
    ≡ option_or (opened_in before s boot) (machine_first_open (machine_open_sent s boot item))
unfolding opened_in
opened_more before item s boot = by_test (boot == 1) where
  first_append : (xs ys : List ℕ) → machine_first_open (xs ++ ys) ≡ option_or (machine_first_open xs) (machine_first_open ys)
  first_append [] ys = refl
  first_append (x ∷ xs) ys = refl

  by_test : (b : Bool)
      → (if b then Some 1 else machine_first_open (journal_all_given (machine_open_sent s boot) (before ++ item ∷ [])))
      ≡ option_or (if b then Some 1 else machine_first_open (journal_all_given (machine_open_sent s boot) before))
      (machine_first_open (machine_open_sent s boot item))
  by_test true = refl
  by_test false = ap machine_first_open (sent_more before item s boot)
      ∙ first_append (journal_all_given (machine_open_sent s boot) before) (machine_open_sent s boot item)

-- in the known boot, where that stays
pub opened_at_more : (before : List Item) (next : Item) (s : ℕ) → journal_known_boot (before ++ next ∷ []) s
    ≡ journal_known_boot before s → journal_opened_at (before ++ next ∷ []) s
    ≡ option_or (journal_opened_at before s) (machine_first_open (machine_open_sent s (journal_known_boot before s) next))
opened_at_more before next s known = opened_is (before ++ next ∷ []) s
    ∙ ap (opened_in (before ++ next ∷ []) s) known ∙ opened_more before next s (journal_known_boot before s)
    ∙ ap (λ o. option_or o (machine_first_open (machine_open_sent s (journal_known_boot before s) next)))
    (sym (opened_is before s))

-- an item opens a switch in a boot only by its message
pub opens_by : (next : Item) (s boot version : ℕ) → machine_first_open (machine_open_sent s boot next) ≡ Some version
    → (n : ℕ) × (next ≡ Item.Sent n (machine_message_to_switch s (OpenAt boot version)))
opens_by (Item.Sent n message) s boot version opens = (n, grind (arith, nat_tests))
opens_by next s boot version opens = let none : None ≡ Some version = opens in absurd cc

-- ---- causes of items and facts of journals: what each item keeps, a journal has

pub own : (i : ℕ) → (i == i) ≡ true
own i = eq-eqb i i refl

-- the items have their causes after the journal
abbrev pub Has : Setting → List Item → List Item → Type 0
Has setting journal items = JournalItemsHaveCauses (HasControlItemCause setting) journal items

-- a piece has causes that its row and what follows it have
pub piece_has : (cause : List Item → Item → Type 0) (setting : Setting) (journal : List Item)
    (row : ℕ) (step : Step) → cause journal (Item.Row row step)
    → (let here = journal ++ Item.Row row step ∷ [] in
    JournalItemsHaveCauses cause here (machine_step_items setting journal step here))
    → JournalItemsHaveCauses cause journal (piece setting journal row step)
unfolding piece
piece_has cause setting journal row step =
    have_first cause (Item.Row row step) (machine_step_items setting journal step) journal

-- causes that others follow from
pub have_weaker : (one other : List Item → Item → Type 0) →
    ((before : List Item) (item : Item) → one before item → other before item) →
    (before items : List Item) → JournalItemsHaveCauses one before items → JournalItemsHaveCauses other before items
have_weaker one other weaker before [] have = tt
have_weaker one other weaker before (item ∷ items) have =
    (weaker before item have.0, have_weaker one other weaker (before ++ item ∷ []) items have.1)

-- causes of two kinds
pub record Both (one other : List Item → Item → Type 0) (before : List Item) (item : Item)
    : Type 0 where
  pub first : one before item
  pub second : other before item

pub have_both : (one other : List Item → Item → Type 0) (before items : List Item)
    → JournalItemsHaveCauses one before items → JournalItemsHaveCauses other before items
    → JournalItemsHaveCauses (Both one other) before items
have_both one other before [] firsts seconds = tt
have_both one other before (item ∷ items) firsts seconds = (
  record { first = firsts.0; second = seconds.0 },
  have_both one other (before ++ item ∷ []) items firsts.1 seconds.1,
)

-- the first of them have theirs
pub have_front : (cause : List Item → Item → Type 0) (before xs ys : List Item)
    → JournalItemsHaveCauses cause before (xs ++ ys) → JournalItemsHaveCauses cause before xs
have_front cause before [] ys have = tt
have_front cause before (x ∷ xs) ys have =
    (have.0, have_front cause (before ++ x ∷ []) xs ys have.1)

-- and the others theirs
pub have_rest : (cause : List Item → Item → Type 0) (before xs ys : List Item)
    → JournalItemsHaveCauses cause before (xs ++ ys) → JournalItemsHaveCauses cause (before ++ xs) ys
have_rest cause before [] ys have = rw (append-nil before) have
have_rest cause before (x ∷ xs) ys have = rw (append_assoc before (x ∷ []) xs) at
    (have_rest cause (before ++ x ∷ []) xs ys have.1)

-- items with this cause keep the fact
abbrev pub AreKept : (List Item → Item → Type 0) → (List Item → Type 0) → Type 0
AreKept cause fact = (before : List Item) (item : Item) → cause before item → fact before
    → fact (before ++ item ∷ [])

-- so the fact is true after them, and before each of them
pub fact_on : (cause : List Item → Item → Type 0) (fact : List Item → Type 0) → AreKept cause fact
    → (before items : List Item) → JournalItemsHaveCauses cause before items → fact before
    → fact (before ++ items)
fact_on cause fact kept before [] have known = subst fact (sym (append-nil before)) known
fact_on cause fact kept before (item ∷ items) have known =
    subst fact (append_assoc before (item ∷ []) items)
    (fact_on cause fact kept (before ++ item ∷ []) items have.1 (kept before item have.0 known))

-- facts that hold where all items have their causes
abbrev pub FromCauses : (Setting → List Item → Type 0) → Type 0
FromCauses Holds = (setting : Setting) (journal : List Item)
    → JournalItemsHaveCauses (HasControlItemCause setting) [] journal → Holds setting journal

-- so does what holds at first, where each item with its cause keeps it
pub from_causes : (Holds : Setting → List Item → Type 0)
    → ((setting : Setting) → AreKept (HasControlItemCause setting) (Holds setting))
    → ((setting : Setting) → Holds setting []) → FromCauses Holds
from_causes Holds kept first setting journal have =
    fact_on (HasControlItemCause setting) (Holds setting) (kept setting) [] journal have (first setting)

-- numbers that no item with its cause makes fall
abbrev pub NeverFalls : (List Item → ℕ) → Type 0
NeverFalls number = (setting : Setting) (before : List Item) (next : Item)
    → HasControlItemCause setting before next → number before ≤ number (before ++ next ∷ [])

-- a cause, and a fact of the journal before the item
pub record Behind (cause : List Item → Item → Type 0) (fact : List Item → Type 0)
    (before : List Item) (item : Item) : Type 0 where
  pub caused : cause before item
  pub known : fact before

pub with_fact : (cause : List Item → Item → Type 0) (fact : List Item → Type 0)
    → AreKept cause fact → (before items : List Item) → JournalItemsHaveCauses cause before items
    → fact before → JournalItemsHaveCauses (Behind cause fact) before items
with_fact cause fact kept before [] have known = tt
with_fact cause fact kept before (item ∷ items) have known = (
  record { caused = have.0; known = known },
  with_fact cause fact kept (before ++ item ∷ []) items have.1 (kept before item have.0 known),
)

-- ---- items that have their causes keep what is known of boots

-- ---- what is told was sent

-- what is said to the controller was sent to it
pub said_sent : (before : List Item) (number : ℕ) (body : Body) → journal_body_to_controller before number
    ≡ Some body → journal_message_of before number ≡ Some (message_to_controller body)
said_sent before number body said = grind arith

-- a hello that was told was sent
pub hello_sent : (before : List Item) (s number boot : ℕ)
    → option_and_then (machine_hello_boot s) (journal_body_to_controller before number) ≡ Some boot
    → journal_message_of before number ≡ Some (message_to_controller (Hello s boot))
hello_sent before s number boot told = grind (arith, nat_tests)

-- ---- boots rise

pub raised_up : (boot : ℕ) (hello : Option ℕ) → boot ≤ raised boot hello
raised_up boot None = omega arith
raised_up boot (Some hello) = omega arith

pub known_rises : (before : List Item) (item : Item) (s : ℕ)
    → journal_known_boot before s ≤ journal_known_boot (before ++ item ∷ []) s
known_rises before item s = rw (known_more before item s)
    (raised_up (journal_known_boot before s) (hello_told s before item))

-- a greater hello raises it
pub hello_above : (before : List Item) (s number : ℕ) → IsTrue (journal_raises_known_boot before s number)
    → journal_known_boot before s < journal_known_boot (before ++ Item.Delivered number ∷ []) s
hello_above before s number raises = rw (known_more before (Item.Delivered number) s)
    (by_hello (option_and_then (machine_hello_boot s) (journal_body_to_controller before number)) raises)
  where
    by_hello : (hello : Option ℕ)
        → IsTrue (option_map_or (λ boot. nat_lt (journal_known_boot before s) boot) hello false)
        → journal_known_boot before s < raised (journal_known_boot before s) hello
    by_hello None above = absurd cc
    by_hello (Some boot) above = grind (arith, nat_tests)

pub boot_rises : (setting : Setting) (before : List Item) (item : Item) (s : ℕ)
    → HasControlItemCause setting before item → journal_boot_of before s ≤ journal_boot_of (before ++ item ∷ []) s
boot_rises setting before (Item.Booted t boot) s cause = rw boot_more (grind (arith, nat_tests))
boot_rises setting before item s cause = rw (boot_more before item s) (omega arith)

-- ---- what items keep

past_on : (setting : Setting) (before : List Item) (item : Item) (to : Place) (body : Body)
    → HasControlItemCause setting before item → ControlHasPastBoot before to body
    → ControlHasPastBoot (before ++ item ∷ []) to body
past_on setting before item (Place.Switch s) body cause past = IfSome_then (body_boot body) past
    (λ boot below. omega (arith, below, known_rises before item s))
past_on setting before item Place.Controller body cause past = IfSome_then (machine_speaking_in_body body) past
    (λ of below. omega (arith, below, boot_rises setting before item of.0 cause))

sent_past : (setting : Setting) (before : List Item) (to : Place) (body : Body)
    → IsRightControlMessage setting before to body → ControlHasPastBoot before to body
sent_past setting before (Place.Switch s) (CacheRule version word rule action) right = tt
sent_past setting before (Place.Switch s) (Advertise advert) right = tt
sent_past setting before (Place.Switch s) (Hello t boot) right = absurd right
sent_past setting before (Place.Switch s) (Installed t boot version) right = absurd right
sent_past setting before (Place.Switch s) (Stamped t boot version) right = absurd right
sent_past setting before (Place.Switch s) command right = let known = right.to.known in omega arith
sent_past setting before Place.Controller (Hello s boot) right = let own = right.own in omega arith
sent_past setting before Place.Controller (Installed s boot version) right =
    let own = right.present.own in omega arith
sent_past setting before Place.Controller (Stamped s boot version) right =
    let own = right.present.own in omega arith
sent_past setting before Place.Controller _ right = absurd right

-- a message of a number is the one that the item sends, or was sent before
pub by_number : (before : List Item) (next : Item) (n : ℕ) (message : Message)
    → journal_message_of (before ++ next ∷ []) n ≡ Some message
    → (next ≡ Item.Sent n message) ⊎ (journal_message_of before n ≡ Some message)
by_number before (Item.Sent number sent) n message is = by_test (number == n) refl where
  by_test : (b : Bool) → (number == n) ≡ b →
      (Item.Sent number sent ≡ Item.Sent n message) ⊎ (journal_message_of before n ≡ Some message)
  by_test true e = let own = rw (message_more before (Item.Sent number sent) n, e) at is in
      inl (ap (λ k. Item.Sent k sent) (eqb-true number n e) ∙ ap (Item.Sent n) cc)
  by_test false e = inr (rw (message_more before (Item.Sent number sent) n, e) at is)
by_number before next n message is = inr (rw (message_more before next n) at is)

-- what is true of the one, and of those that were sent before, is true of each
pub new_or_old : (cause : List Item → Item → Type 0) (Says : Place → Body → Type 0)
    (before : List Item) (next : Item) → cause before next
    → ((n : ℕ) (message : Message) → cause before (Item.Sent n message)
    → Says message.to message.body)
    → ((n : ℕ) (message : Message) → journal_message_of before n ≡ Some message
    → Says message.to message.body)
    → (n : ℕ) (message : Message) → journal_message_of (before ++ next ∷ []) n ≡ Some message
    → Says message.to message.body
new_or_old cause Says before next has new old n message is =
    elim (by_number before next n message is) [
      | inl sent ↦ new n message (subst (cause before) sent has)
      | inr there ↦ old n message there
    ]

-- a hello that is told is of a past boot
pub told_past : (before : List Item) (s number boot : ℕ) → ControlBootsArePast before
    → option_and_then (machine_hello_boot s) (journal_body_to_controller before number) ≡ Some boot
    → boot ≤ journal_boot_of before s
told_past before s number boot boots told = boots.sent number (message_to_controller (Hello s boot))
    (hello_sent before s number boot told)

known_on : (setting : Setting) (before : List Item) (item : Item) (s : ℕ)
    → HasControlItemCause setting before item → ControlBootsArePast before
    → journal_known_boot (before ++ item ∷ []) s ≤ journal_boot_of (before ++ item ∷ []) s
known_on setting before (Item.Delivered number) s cause boots =
    rw (known_more before (Item.Delivered number) s, boot_more before (Item.Delivered number) s)
    (by_told (option_and_then (machine_hello_boot s) (journal_body_to_controller before number)) refl)
  where
    by_told : (o : Option ℕ) → option_and_then (machine_hello_boot s) (journal_body_to_controller before number) ≡ o
        → raised (journal_known_boot before s) o ≤ journal_boot_of before s
    by_told None e = boots.known s
    by_told (Some boot) e = omega (arith, boots.known s, told_past before s number boot boots e)
known_on setting before item s cause boots =
    omega (arith, known_more before item s, boots.known s, boot_rises setting before item s cause)

pub boots_on : (setting : Setting) (before : List Item) (item : Item) → HasControlItemCause setting before
    item → ControlBootsArePast before → ControlBootsArePast (before ++ item ∷ [])
boots_on setting before item cause boots = record {
  known = λ s. known_on setting before item s cause boots;
  sent = λ n message is. past_on setting before item message.to message.body cause
      (new_or_old (HasControlItemCause setting) (ControlHasPastBoot before) before item cause
      (λ k sent. sent_past setting before sent.to sent.body) boots.sent n message is);
}

pub boots_at_first : ControlBootsArePast []
boots_at_first = record {
  known = λ s. omega (arith, start_laws.known s, start_laws.boot s);
  sent = λ n message is.
      let none : None ≡ Some message = rw (start_laws.message n).message at is in absurd cc;
}
