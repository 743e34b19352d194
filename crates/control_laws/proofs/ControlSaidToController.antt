-- What was told to the controller, item by item.
use Rattle.std.proofs.Common.{[], ◌++◌, ◌+◌, ◌<◌, ◌||◌, ◌∙◌, ◌∷◌, ◌≡◌, ◌≤◌, ◌⊎◌, Bool, IsTrue, List, None, Option, Some, ap, append-nil, append_assoc, arith, eqb-true, false, filter, filter_map, fold, if◌then◌else◌, inl, inr, map, max, min, nat_eq, option_and_then, option_to_list, refl, subst, suc, sym, true, unwrap_or, zero, ℕ}
use Rattle.update_machine.specs.Exports.{Advert, Advertise, Body, JournalItemsHaveCauses, Install, Installed, Item, Message, NoMachineItemConcerns, OpenAt, Setting, Stamp, Stamped, MachineStepItems, acked_stamp, journal_advert_known, journal_adverts_heard, journal_body_to_controller, journal_boot_of, machine_item_concerns_links, machine_confirm_items, journal_controller_heard, machine_deliver_items, machine_delivery_items, machine_hello_boot, machine_hello_of, machine_blocks_in_turn, machine_installs_to_all, is_deliverable, is_journal_news_to, is_up, journal_items_then, journal_known_boot, machine_least_number, journal_link_changes, members, journal_message_of, near, nothing, open_version, journal_opened_at, own_advert, machine_advert_passed_on, machine_restart_items, machine_send_items, serves, machine_settling, journal_stamp_of, machine_stamped_version_in, journal_steps_in, machine_submitted_items, journal_switch_items, machine_update_code, machine_update_items, journal_version_count}
use Rattle.base.proofs.Exports.{⊤, AllByRecursion, cases_eq, filter_map-append, fold-append, list_any, range_with_len}
use Rattle.base.specs.Exports.{has}
use Rattle.ctrl_msg.specs.Exports.{message_to_controller}
use Rattle.control_laws.proofs.ControlFactsGrown.{said_sent, told_more}
pub use Rattle.control_laws.proofs.ControlMessageSends.{each_weaker}

-- ---- what is true after the items of a step, by what the step comes to

-- two blocks in turn
pub in_two : (a b : List Item → List Item) (journal : List Item)
    → let one = journal ++ a journal in journal ++ machine_blocks_in_turn (a ∷ b ∷ []) journal ≡ one ++ b one
in_two a b journal = let one : List Item = journal ++ a journal in
    sym (append_assoc journal (a journal) (machine_blocks_in_turn (b ∷ []) one))
    ∙ ap (λ items. one ++ items) (append-nil (b one))

-- no mark rises, or it does and the members are told
pub rise_cases : (F : List Item → Type 0) (setting : Setting) (journal : List Item) (next : Item)
    (message : ℕ → Message) (rises : Bool) → (rises ≡ false → F journal)
    → (let raised = journal ++ next ∷ [] in
    F (raised ++ machine_send_items raised (map message (members setting journal))))
    → F (journal ++ elim rises [
      | false ↦ []
      | true ↦ journal_items_then
          (next ∷ []) (λ raised. machine_send_items raised (map message (members setting journal))) journal
    ])
rise_cases F setting journal next message false none risen = rw (append-nil journal) (none refl)
rise_cases F setting journal next message true none risen = subst F (append_assoc journal
    (next ∷ []) (machine_send_items (journal ++ next ∷ []) (map message (members setting journal)))) risen

-- nothing happens, or the message is delivered
pub deliver_cases : (F : List Item → Type 0) (setting : Setting) (before : List Item) (number : ℕ)
    (here : List Item) → F (here ++ nothing) →
    (let now = here ++ Item.Delivered number ∷ [] in
    F (now ++ machine_delivery_items setting before number now)) →
    F (here ++ machine_deliver_items setting before number here)
unfolding machine_deliver_items
deliver_cases F setting before number here none delivered = by_test (is_deliverable before number)
  where
    next : Item
    next = Item.Delivered number

    by_test : (b : Bool) → F (here ++ elim b [
      | false ↦ nothing
      | true ↦ journal_items_then (next ∷ []) (machine_delivery_items setting before number) here
    ])
    by_test false = none
    by_test true = subst F (append_assoc here
        (next ∷ []) (machine_delivery_items setting before number (here ++ next ∷ []))) delivered

-- the policy is refused, or its tables are sent and the marks settle
pub update_cases : (F : List Item → Type 0) (setting : Setting) (file : ℕ) (here : List Item)
    → ((code : ℕ) → F (here ++ Item.Refused file code ∷ [])) →
    (let now = here ++ Item.Submitted file (journal_version_count here + 1) ∷ [] in
    let sent = now ++ machine_installs_to_all setting now in F (sent ++ machine_settling setting sent)) →
    F (here ++ machine_update_items setting file here)
unfolding machine_update_items
update_cases F setting file here refused submitted = by_code (machine_update_code setting here file) where
  next : Item
  next = Item.Submitted file (journal_version_count here + 1)

  now : List Item
  now = here ++ next ∷ []

  by_code : (o : Option ℕ) → F (here ++ elim o [
    | Some code ↦ Item.Refused file code ∷ []
    | None ↦ journal_items_then (next ∷ []) (machine_submitted_items setting) here
  ])
  by_code (Some code) = refused code
  by_code None = subst F (append_assoc here (next ∷ []) (machine_submitted_items setting now))
      (subst F (sym (in_two (machine_installs_to_all setting) (machine_settling setting) now)) submitted)

-- nothing happens, or the marks settle
pub confirm_cases : (F : List Item → Type 0) (setting : Setting) (s : ℕ) (here : List Item)
    → F (here ++ nothing) →
    (let now = here ++ Item.OverNow s ∷ [] in F (now ++ machine_settling setting now)) →
    F (here ++ machine_confirm_items setting s here)
unfolding machine_confirm_items
confirm_cases F setting s here none confirmed = by_up (is_up here s) where
  next : Item
  next = Item.OverNow s

  by_up : (b : Bool) → F (here ++ elim b [
    | true ↦ nothing
    | false ↦ journal_items_then (next ∷ []) (machine_settling setting) here
  ])
  by_up true = none
  by_up false =
      subst F (append_assoc here (next ∷ []) (machine_settling setting (here ++ next ∷ []))) confirmed

-- nothing happens, or the switch begins its next boot and says hello
pub restart_cases : (F : List Item → Type 0) (s : ℕ) (here : List Item) → F (here ++ nothing)
    → (is_up here s ≡ false → let now = here ++ Item.Booted s (journal_boot_of here s + 1) ∷ [] in
    F (now ++ machine_send_items now (machine_hello_of now s ∷ []))) →
    F (here ++ machine_restart_items s here)
unfolding machine_restart_items
restart_cases F s here none booted = by_up (is_up here s) refl where
  next : Item
  next = Item.Booted s (journal_boot_of here s + 1)

  hello : List Item → List Item
  hello now = machine_send_items now (machine_hello_of now s ∷ [])

  by_up : (b : Bool) → is_up here s ≡ b → F (here ++ elim b [
    | true ↦ nothing
    | false ↦ journal_items_then (next ∷ []) hello here
  ])
  by_up true e = none
  by_up false e = subst F (append_assoc here (next ∷ []) (hello (here ++ next ∷ []))) (booted e)

-- ---- what is in a journal just before an item that changes links, or by which an advert is sent

-- ---- adverts

-- the switch holds the advert
pub record IsHeld (setting : Setting) (before : List Item) (s : ℕ) (advert : Advert) : Type 0 where
  pub origin : ℕ
  pub small : origin < 64
  pub held : journal_advert_known setting before s origin ≡ Some advert

-- the switch heard the advert last
pub record IsHeard (before : List Item) (s : ℕ) (advert : Advert) : Type 0 where
  pub earlier : List Advert
  pub heard : journal_adverts_heard before s ≡ earlier ++ advert ∷ []

-- a switch tells a neighbour its own advert, one that it holds, or the one that it heard last
pub record IsTold (setting : Setting) (before : List Item) (advert : Advert) : Type 0 where
  pub switch : ℕ
  pub neighbour : ℕ
  pub near : IsTrue (has (near setting before switch) neighbour)
  pub which : (advert ≡ own_advert setting before switch)
      ⊎ (IsHeld setting before switch advert ⊎ IsHeard before switch advert)

abbrev pub IsToldIn : Setting → List Item → Body → Type 0
IsToldIn setting before (Advertise advert) = IsTold setting before advert
IsToldIn setting before _ = ⊤

-- ---- links

-- the journal ends with the step that is being taken, which changed no links so far
pub record ChangedNoLinks (before : List Item) : Type 0 where
  pub newest : MachineStepItems
  pub earlier : List MachineStepItems
  pub steps : journal_steps_in before ≡ newest ∷ earlier
  pub ends : newest.before ++ newest.items ≡ before
  pub none : NoMachineItemConcerns machine_item_concerns_links newest.before newest.items

-- ---- the table

-- each advert that is sent is told by a switch; links change at most once in a step
abbrev pub HasLinkCause : Setting → List Item → Item → Type 0
HasLinkCause setting before (Item.Sent number message) = IsToldIn setting before message.body
HasLinkCause setting before (Item.Down s) = ChangedNoLinks before
HasLinkCause setting before (Item.Booted s boot) = ChangedNoLinks before
HasLinkCause setting before (Item.Opened s version) = ChangedNoLinks before
HasLinkCause setting before (Item.LinkIs one two up) = ChangedNoLinks before
HasLinkCause setting before _ = ⊤

abbrev pub HaveLinkCauses : Setting → List Item → List Item → Type 0
HaveLinkCauses setting before items = JournalItemsHaveCauses (HasLinkCause setting) before items

-- ---- what a switch writes for a body that is said to it: it answers the controller, or opens and
-- tells its neighbours of its links, or passes news on, or writes nothing.

-- the items of a switch that opens
abbrev pub opening_items : Setting → List Item → ℕ → List Item → List Item
opening_items setting before s now =
    journal_items_then (Item.Opened s (journal_stamp_of now s) ∷ []) (journal_link_changes setting before) now

-- what is true of each of these is true of what the switch writes
pub switch_cases : (P : List Item → Type 0) (setting : Setting) (before : List Item) (s : ℕ)
    (body : Body) (now : List Item)
    → ((boot version : ℕ) → P (machine_send_items now (message_to_controller (Installed s boot version) ∷ [])))
    → ((boot version : ℕ) → P (machine_send_items now (message_to_controller (Stamped s boot version) ∷ [])))
    → ((boot version : ℕ) → body ≡ OpenAt boot version → P (opening_items setting before s now))
    → ((advert : Advert) → body ≡ Advertise advert → IsTrue (is_journal_news_to setting before s advert)
    → P (machine_send_items now (machine_advert_passed_on setting now s advert)))
    → P [] → P (journal_switch_items setting before s body now)
unfolding journal_switch_items
switch_cases P setting before s (Install boot tables) now installed stamped opens passes none =
    installed boot tables.version
switch_cases P setting before s (Stamp boot version touched) now installed stamped opens passes
    none = stamped boot version
switch_cases P setting before s (OpenAt boot version) now installed stamped opens passes none =
    by_serving (serves before s)
  where
    by_serving : (serving : Bool) → P (elim serving [
      | true ↦ []
      | false ↦ journal_items_then (Item.Opened s (journal_stamp_of now s) ∷ []) (journal_link_changes setting before) now
    ])
    by_serving true = none
    by_serving false = opens boot version refl
switch_cases P setting before s (Advertise advert) now installed stamped opens passes none =
    by_news (is_journal_news_to setting before s advert) refl
  where
    by_news : (news : Bool) → is_journal_news_to setting before s advert ≡ news → P (elim news [
      | true ↦ machine_send_items now (machine_advert_passed_on setting now s advert)
      | false ↦ []
    ])
    by_news true is = passes advert refl is
    by_news false is = none
switch_cases P setting before s body now installed stamped opens passes none = none

-- ---- told to controller

-- what bodies of this kind told the controller
abbrev pub told_by : {X : Type 0} → (Body → Option X) → List Item → List X
told_by reads journal = filter_map reads (journal_controller_heard journal)

-- what an item tells it
abbrev pub tells : {X : Type 0} → (Body → Option X) → List Item → Item → List X
tells reads before (Item.Delivered number) =
    option_to_list (option_and_then reads (journal_body_to_controller before number))
tells reads before _ = []

pub told_by_more : {X : Type 0} (reads : Body → Option X) (before : List Item) (next : Item)
    → told_by reads (before ++ next ∷ []) ≡ told_by reads before ++ tells reads before next
told_by_more {X = X} reads before (Item.Delivered number) =
    ap (filter_map reads) (told_more before (Item.Delivered number)) ∙ filter_map-append reads
    (journal_controller_heard before) (option_to_list (journal_body_to_controller before number))
    ∙ ap (λ xs. told_by reads before ++ xs) (by_said (journal_body_to_controller before number))
  where
    by_said : (said : Option Body) → filter_map reads (option_to_list said)
        ≡ option_to_list (option_and_then reads said)
    by_said None = refl
    by_said (Some body) = by_read (reads body) refl where
      by_read : (read : Option X) → reads body ≡ read
          → filter_map reads (body ∷ []) ≡ option_to_list read
      by_read None e = rw e refl
      by_read (Some x) e = rw e refl
told_by_more reads before next = cc (told_more before next, append-nil (told_by reads before))

-- what is told in some body was sent in it
pub told_sent : {X : Type 0} (reads : Body → Option X) (writes : X → Body) →
    ((body : Body) (x : X) → reads body ≡ Some x → body ≡ writes x) →
    (before : List Item) (number : ℕ) (x : X)
    → option_and_then reads (journal_body_to_controller before number) ≡ Some x
    → journal_message_of before number ≡ Some (message_to_controller (writes x))
told_sent reads writes is before number x told = by_said (journal_body_to_controller before number) refl
  where
    by_said : (said : Option Body) → journal_body_to_controller before number ≡ said
        → journal_message_of before number ≡ Some (message_to_controller (writes x))
    by_said None e = let none : None ≡ Some x = rw e at told in absurd cc
    by_said (Some body) e = cc (said_sent before number body e, is body x (rw e at told))

-- ---- facts of each element

-- a number that is among them has it
pub each_at : (P : ℕ → Type 0) (v : ℕ) (xs : List ℕ) → AllByRecursion P xs
    → IsTrue (list_any (nat_eq v) xs) → P v
each_at P v [] all any = absurd cc
each_at P v (x ∷ xs) all any = by_test (nat_eq v x) refl any (each_at P v xs all.1) where
  by_test : (b : Bool) → nat_eq v x ≡ b → IsTrue (b || list_any (nat_eq v) xs)
      → (IsTrue (list_any (nat_eq v) xs) → P v) → P v
  by_test true e any rest = subst P (sym (eqb-true v x e)) all.0
  by_test false e any rest = rest any

-- among numbers of a range that pass a test
pub each_in_range : (P : ℕ → Type 0) (test : ℕ → Bool) (low n x : ℕ)
    → AllByRecursion P (filter test (range_with_len low n)) → low ≤ x → x < low + n
    → IsTrue (test x) → P x
each_in_range P test low zero x all above below is = absurd (omega arith)
each_in_range P test low (suc n) x all above below is =
    by_test (test low) refl all (each_in_range P test (low + 1) n x)
  where
    rest : List ℕ
    rest = filter test (range_with_len (low + 1) n)

    by_test : (b : Bool) → test low ≡ b → AllByRecursion P (if b then low ∷ rest else rest)
        → (AllByRecursion P rest → low + 1 ≤ x → x < low + 1 + n → IsTrue (test x) → P x) → P x
    by_test true e all later = elim (cases_eq x low) [
      | inl own ↦ subst P (sym own) all.0
      | inr apart ↦ later all.1 (omega (arith, above, apart)) (omega (arith, below)) is
    ]
    by_test false e all later = elim (cases_eq x low) [
      | inl own ↦ let no : test x ≡ false = ap test own ∙ e in absurd cc
      | inr apart ↦ later all (omega (arith, above, apart)) (omega (arith, below)) is
    ]

-- ---- the greatest and the least of numbers, and the acknowledged stamp as the greatest of some

-- the greatest of numbers that a bound holds of is within it
pub fold_within : (bound first : ℕ) (xs : List ℕ) → first ≤ bound
    → AllByRecursion (λ x. x ≤ bound) xs → fold max first xs ≤ bound
fold_within bound first [] within all = within
fold_within bound first (x ∷ xs) within all =
    fold_within bound (max first x) xs (omega (arith, within, all.0)) all.1

-- so is the acknowledged stamp, where the opening and what was told are
pub acked_stamp_within : (journal : List Item) (s bound : ℕ) → open_version journal s ≤ bound
    → AllByRecursion (λ x. x ≤ bound) (told_by (machine_stamped_version_in s (journal_known_boot journal s)) journal)
    → acked_stamp journal s ≤ bound
unfolding acked_stamp
acked_stamp_within journal s bound opening told = fold_within bound (open_version journal s)
    (told_by (machine_stamped_version_in s (journal_known_boot journal s)) journal) opening told

-- an opening within a bound
pub open_within : (journal : List Item) (s bound : ℕ)
    → ((version : ℕ) → journal_opened_at journal s ≡ Some version → version ≤ bound)
    → open_version journal s ≤ bound
open_within journal s bound within = by_opened (journal_opened_at journal s) refl where
  by_opened : (o : Option ℕ) → journal_opened_at journal s ≡ o → unwrap_or o 0 ≤ bound
  by_opened None e = omega arith
  by_opened (Some version) e = within version e

pub fold_up : (first : ℕ) (xs : List ℕ) → first ≤ fold max first xs
fold_up first [] = omega arith
fold_up first (x ∷ xs) = omega (arith, fold_up (max first x) xs)

-- no known boot is below the first one
pub known_first : (journal : List Item) (s : ℕ) → 1 ≤ journal_known_boot journal s
unfolding journal_known_boot
known_first journal s = fold_up 1 (told_by (machine_hello_boot s) journal)

-- it is at least the version of the opening
pub acked_stamp_opened : (journal : List Item) (s : ℕ)
    → open_version journal s ≤ acked_stamp journal s
unfolding acked_stamp
acked_stamp_opened journal s = fold_up (open_version journal s)
    (told_by (machine_stamped_version_in s (journal_known_boot journal s)) journal)

-- and rises within a boot
pub acked_stamp_rises : (before : List Item) (next : Item) (s : ℕ)
    → journal_known_boot (before ++ next ∷ []) s ≡ journal_known_boot before s
    → open_version (before ++ next ∷ []) s ≡ open_version before s
    → acked_stamp before s ≤ acked_stamp (before ++ next ∷ []) s
unfolding acked_stamp
acked_stamp_rises before next s known opening =
    let told : List ℕ = told_by (machine_stamped_version_in s (journal_known_boot before s)) before in
    let new : List ℕ = tells (machine_stamped_version_in s (journal_known_boot before s)) before next in
    rw (known, opening, told_by_more, fold-append)
    (fold_up (fold max (open_version before s) told) new)

-- ---- the least

fold_min : (first : ℕ) (xs : List ℕ)
    → (fold min first xs ≤ first) × AllByRecursion (λ x. fold min first xs ≤ x) xs
fold_min first [] = (omega arith, tt)
fold_min first (x ∷ xs) =
    let rest = fold_min (min first x) xs in (omega arith, (omega arith, rest.1))

-- the least of numbers is at most each of them
pub least_below : (xs : List ℕ) (other : ℕ)
    → AllByRecursion (λ x. unwrap_or (machine_least_number xs) other ≤ x) xs
least_below [] other = tt
least_below (x ∷ xs) other = fold_min x xs

-- and it is within a bound on each of them
pub least_within : (xs : List ℕ) (bound : ℕ) → AllByRecursion (λ x. x ≤ bound) xs
    → unwrap_or (machine_least_number xs) bound ≤ bound
least_within [] bound all = omega arith
least_within (x ∷ xs) bound all =
    let below = (fold_min x xs).0 in
    let first = all.0 in omega arith
