-- Items that deliver nothing and begin no boot: all of every step but the `Delivered` and the
-- `Booted` of two kinds. What they forget could be delivered. Those of steps that move no packet
-- make none stuck either.
use Rattle.std.proofs.Common.{[], ◌++◌, ◌+◌, ◌<◌, ◌∙◌, ◌∷◌, ◌≡◌, ◌≤◌, ◌⊎◌, All, Bool, IsFalse, IsTrue, List, None, Option, Some, ap, arith, false, filter, filter_map, flat_map, inl, inr, length, map, refl, slice_index_or, subst, suc, sym, true, zero, ℕ, rules}
use Rattle.base.proofs.Exports.{⊤, AllByRecursion, cases_eq, cons_option, range_with_len, recursion_from_All}
use Rattle.update_machine.specs.Exports.{Body, Confirm, Crash, Deliver, JournalItemsHaveCauses, Hop, Item, LinkDown, LinkUp, Message, Packet, Resend, Restart, Setting, Step, Update, journal_boot_of, machine_deliver_items, machine_delivery_items, machine_expire_items, machine_forget_items, machine_hello_of, is_deliverable, is_up, journal_items_then, journal_link_changes, machine_lose_items, nothing, machine_restart_items, machine_send_items, machine_settling, machine_step_items, journal_switch_items}
use Rattle.update_machine.proofs.Exports.{PiecesHave, have_first, message_keeps}
use Rattle.control_laws.proofs.Exports.{Change, Control, IsChange, IsControl, IsTraffic, confirm_control, controller_control, crash_changes, delivery_has, have_weaker, link_change, links_change, packet_has, piece_has, resends_any, sends_any, settling_control, step_traffic, switch_cases, update_has, work_cases}

-- ---- elements of lists

-- the list has the element
abbrev pub IsIn : {X : Type 0} → X → List X → Type 0
IsIn x [] = ⊥
IsIn x (y ∷ ys) = (y ≡ x) ⊎ IsIn x ys

pub in_left : {X : Type 0} (x : X) (xs ys : List X) → IsIn x xs → IsIn x (xs ++ ys)
in_left x [] ys is = absurd is
in_left x (y ∷ xs) ys is = elim is [ inl here ↦ inl here | inr later ↦ inr (in_left x xs ys later) ]

pub in_right : {X : Type 0} (x : X) (xs ys : List X) → IsIn x ys → IsIn x (xs ++ ys)
in_right x [] ys is = is
in_right x (y ∷ xs) ys is = inr (in_right x xs ys is)

pub in_either : {X : Type 0} (x : X) (xs ys : List X) → IsIn x (xs ++ ys) → IsIn x xs ⊎ IsIn x ys
in_either x [] ys is = inr is
in_either x (y ∷ xs) ys is = elim is [
  | inl here ↦ inl (inl here)
  | inr later ↦ elim (in_either x xs ys later) [
    | inl first ↦ inl (inr first)
    | inr second ↦ inr second
  ]
]

-- what is true of each is true of an element
pub each_in : {X : Type 0} (P : X → Type 0) (x : X) (xs : List X) → AllByRecursion P xs
    → IsIn x xs → P x
each_in P x [] all is = absurd is
each_in P x (y ∷ xs) all is = elim is [
  | inl here ↦ subst P here all.0
  | inr later ↦ each_in P x xs all.1 later
]

pub all_in : {X : Type 0} (P : X → Type 0) (x : X) (xs : List X) → All P xs → IsIn x xs → P x
all_in P x xs all is = each_in P x xs (recursion_from_All P xs all) is

-- and what is true of all elements is true of each
pub each_of_in : {X : Type 0} (P : X → Type 0) (xs : List X) → ((x : X) → IsIn x xs → P x)
    → AllByRecursion P xs
each_of_in P [] all = tt
each_of_in P (x ∷ xs) all = (all x (inl refl), each_of_in P xs (λ y is. all y (inr is)))

pub in_map : {X Y : Type 0} (f : X → Y) (x : X) (xs : List X) → IsIn x xs → IsIn (f x) (map f xs)
in_map f x [] is = absurd is
in_map f x (y ∷ xs) is = elim is [
  | inl here ↦ inl (ap f here)
  | inr later ↦ inr (in_map f x xs later)
]

pub in_filter : {X : Type 0} (test : X → Bool) (x : X) (xs : List X) → IsIn x xs
    → IsTrue (test x) → IsIn x (filter test xs)
in_filter test x [] is passes = absurd is
in_filter {X = X} test x (y ∷ xs) is passes = search (rules, in_filter test x xs)

pub of_filter : {X : Type 0} (test : X → Bool) (x : X) (xs : List X) → IsIn x (filter test xs)
    → IsIn x xs × IsTrue (test x)
of_filter test x [] is = absurd is
of_filter {X = X} test x (y ∷ xs) is = search (rules, of_filter test x xs)

pub in_flat_map : {X Y : Type 0} (f : X → List Y) (x : X) (y : Y) (xs : List X) → IsIn x xs
    → IsIn y (f x) → IsIn y (flat_map f xs)
in_flat_map f x y [] is mine = absurd is
in_flat_map f x y (z ∷ xs) is mine = elim is [
  | inl here ↦ in_left y (f z) (flat_map f xs) (subst (λ w. IsIn y (f w)) (sym here) mine)
  | inr later ↦ in_right y (f z) (flat_map f xs) (in_flat_map f x y xs later mine)
]

-- numbers of a range
pub in_range : (x low n : ℕ) → low ≤ x → x < low + n → IsIn x (range_with_len low n)
in_range x low zero above below = absurd (omega arith)
in_range x low (suc n) above below = elim (cases_eq low x) [
  | inl here ↦ inl here
  | inr apart ↦ inr (in_range x (low + 1) n (omega (arith, above, apart)) (omega (arith, below)))
]

pub of_range : (x low n : ℕ) → IsIn x (range_with_len low n) → (low ≤ x) × (x < low + n)
of_range x low zero is = absurd is
of_range x low (suc n) is = elim is [
  | inl here ↦ (omega (arith, here), omega (arith, here))
  | inr later ↦ let parts = of_range x (low + 1) n later in
      (omega (arith, parts.0), omega (arith, parts.1))
]

-- an element at a place
pub in_at : {X : Type 0} (xs : List X) (k : ℕ) (x : X) → k < length xs
    → slice_index_or xs k x ≡ x → IsIn x xs
in_at [] k x within is = absurd (omega arith)
in_at (y ∷ xs) zero x within is = inl is
in_at (y ∷ xs) (suc k) x within is = inr (in_at xs k x (omega (arith, within)) is)

-- what an element gives is among what all of them give
pub in_filter_map : {X Y : Type 0} (f : X → Option Y) (x : X) (y : Y) (xs : List X) → IsIn x xs
    → f x ≡ Some y → IsIn y (filter_map f xs)
in_filter_map f x y [] is told = absurd is
in_filter_map {Y = Y} f x y (z ∷ xs) is told = elim is [
  | inl here ↦ rw (ap f here ∙ told) (inl refl)
  | inr later ↦ by_told (f z) (in_filter_map f x y xs later told)
] where
  by_told : (o : Option Y) → IsIn y (filter_map f xs) → IsIn y (cons_option o (filter_map f xs))
  by_told None is = is
  by_told (Some w) is = inr is

pub of_filter_map : {X Y : Type 0} (f : X → Option Y) (y : Y) (xs : List X)
    → IsIn y (filter_map f xs) → (x : X) × IsIn x xs × (f x ≡ Some y)
of_filter_map f y [] is = absurd is
of_filter_map {X = X} {Y = Y} f y (z ∷ xs) is = search (rules, of_filter_map f y xs)

-- ---- plain items

abbrev pub IsPlain : List Item → Item → Type 0
IsPlain before (Item.Delivered number) = ⊥
IsPlain before (Item.Booted s boot) = ⊥
IsPlain before (Item.Forgotten number) = IsTrue (is_deliverable before number)
IsPlain before _ = ⊤

abbrev pub Plain : List Item → List Item → Type 0
Plain journal items = JournalItemsHaveCauses IsPlain journal items

-- plain items that make no packet stuck
abbrev pub IsAside : List Item → Item → Type 0
IsAside before (Item.Stuck i s cause leg down) = ⊥
IsAside before next = IsPlain before next

abbrev Aside : List Item → List Item → Type 0
Aside journal items = JournalItemsHaveCauses IsAside journal items

pub aside_is : (before : List Item) (next : Item) → IsAside before next → IsPlain before next
aside_is before next is = search rules

aside_plain : (journal items : List Item) → Aside journal items → Plain journal items
aside_plain = have_weaker IsAside IsPlain aside_is

-- ---- blocks

sends_aside : (journal : List Item) (messages : List Message)
    → Aside journal (machine_send_items journal messages)
sends_aside = sends_any IsAside (λ before n message. tt)

pub sends_plain : (journal : List Item) (messages : List Message)
    → Plain journal (machine_send_items journal messages)
sends_plain = sends_any IsPlain (λ before n message. tt)

control_is : (before : List Item) (next : Item) → IsControl before next → IsAside before next
control_is before next is = search rules

control_aside : (journal items : List Item) → Control journal items → Aside journal items
control_aside = have_weaker IsControl IsAside control_is

pub settling_plain : (setting : Setting) (journal : List Item)
    → Plain journal (machine_settling setting journal)
settling_plain setting journal = aside_plain _ _ (control_aside _ _ (settling_control _ journal))

change_is : (setting : Setting) (before : List Item) (next : Item) → IsChange setting before next
    → IsAside before next
change_is setting before next is = search rules

change_aside : (setting : Setting) (journal items : List Item) → Change setting journal items
    → Aside journal items
change_aside setting = have_weaker (IsChange setting) IsAside (change_is setting)

links_aside : (setting : Setting) (before journal : List Item)
    → Aside journal (journal_link_changes setting before journal)
links_aside setting before journal =
    change_aside setting journal _ (links_change setting before journal)

traffic_is : (setting : Setting) (before : List Item) (next : Item)
    → IsTraffic setting before next → IsPlain before next
traffic_is setting before next is = search rules

-- ---- deliveries

switch_aside : (setting : Setting) (before : List Item) (s : ℕ) (body : Body) (now : List Item)
    → Aside now (journal_switch_items setting before s body now)
switch_aside setting before s body now = switch_cases (Aside now) setting before s body now
    (λ boot version. sends_aside now _) (λ boot version. sends_aside now _)
    (λ boot version is. grind (arith, have_first, links_aside))
    (λ advert is news. sends_aside now _) tt

delivery_aside : (setting : Setting) (before : List Item) (number : ℕ) (now : List Item)
    → Aside now (machine_delivery_items setting before number now)
delivery_aside setting before number now = delivery_has (Aside now) setting before number now tt
    (λ body sent. control_aside now _ (controller_control setting before body now))
    (λ s body said. switch_aside setting before s body now)

pub delivery_plain : (setting : Setting) (before : List Item) (number : ℕ) (now : List Item)
    → Plain now (machine_delivery_items setting before number now)
delivery_plain setting before number now = aside_plain now _ (delivery_aside _ before number now)

-- ---- other steps

lose_aside : (packet : ℕ) (journal : List Item) → Aside journal (machine_lose_items packet journal)
unfolding machine_lose_items
lose_aside packet journal = grind arith

forget_aside : (number : ℕ) (journal : List Item) → Aside journal (machine_forget_items number journal)
unfolding machine_forget_items
forget_aside number journal = by_test (is_deliverable journal number) refl where
  by_test : (b : Bool) → is_deliverable journal number ≡ b → Aside journal (elim b [
    | false ↦ nothing
    | true ↦ Item.Forgotten number ∷ []
  ])
  by_test false e = (tt, tt)
  by_test true e = (e, tt)

expire_aside : (setting : Setting) (s place : ℕ) (journal : List Item)
    → Aside journal (machine_expire_items setting s place journal)
unfolding machine_expire_items
expire_aside setting s place journal = grind arith

-- the steps that move no packet and write neither a `Delivered` nor a `Booted`
abbrev is_aside : Step → Bool
is_aside (Packet s header) = false
is_aside (Hop packet) = false
is_aside (Deliver message) = false
is_aside (Restart s) = false
is_aside _ = true

step_aside : (setting : Setting) (before : List Item) (step : Step) (here : List Item)
    → IsTrue (is_aside step) → Aside here (machine_step_items setting before step here)
step_aside setting before (Update file) here is = update_has _ control_is _ file _ (λ version. tt)
step_aside setting before (LinkDown one two) here is =
    change_aside setting _ _ (link_change setting before one two false _)
step_aside setting before (LinkUp one two) here is =
    change_aside setting _ _ (link_change setting before one two true _)
step_aside setting before (Crash s) here is =
    crash_changes setting IsAside (change_is setting) before s _ (λ up. tt)
step_aside setting before (Confirm s) here is = control_aside _ _ (confirm_control setting s _)
step_aside setting before (Resend s) here is = resends_any _ (λ now n message. tt) setting s _ tt
step_aside setting before (Packet s header) here is = absurd cc
step_aside setting before (Deliver message) here is = absurd cc
step_aside setting before (Restart s) here is = absurd cc
step_aside setting before step here is =
    work_cases (λ step. IsTrue (is_aside step)
    → Aside here (machine_step_items setting before step here)) (λ packet none. absurd cc)
    (λ packet one. lose_aside packet _) (λ message one. forget_aside message _)
    (λ s place one. expire_aside setting s place _) step tt is

-- the steps that write neither
abbrev pub is_plain : Step → Bool
is_plain (Deliver message) = false
is_plain (Restart s) = false
is_plain _ = true

pub step_plain : (setting : Setting) (before : List Item) (step : Step) (here : List Item)
    → is_plain step ≡ true → Plain here (machine_step_items setting before step here)
step_plain setting before (Packet s header) here is = packet_has _ _ (traffic_is _) _ s header _ tt
step_plain setting before (Hop packet) here is = have_weaker (IsTraffic setting) IsPlain
    (traffic_is setting) _ _ (step_traffic setting before (Hop packet) _ tt)
step_plain setting before (Deliver message) here is = absurd cc
step_plain setting before (Restart s) here is = absurd cc
step_plain setting before step here is = aside_plain _ _ (step_aside setting before step here refl)

-- ---- all steps, where the two other items have causes of their own

-- a `Delivered` and a `Booted` have the cause at the moments at which steps write them
pub record HasOthers (cause : List Item → Item → Type 0) : Type 0 where
  pub aside : (before : List Item) (next : Item) → IsAside before next → cause before next
  pub delivered : (journal : List Item) (number : ℕ) → is_deliverable journal number ≡ true
      → cause journal (Item.Delivered number)
  pub booted : (journal : List Item) (s : ℕ) → is_up journal s ≡ false
      → cause journal (Item.Booted s (journal_boot_of journal s + 1))

aside_have : (cause : List Item → Item → Type 0) → HasOthers cause
    → (journal items : List Item) → Aside journal items → JournalItemsHaveCauses cause journal items
aside_have cause others = have_weaker IsAside cause others.aside

deliver_have : (cause : List Item → Item → Type 0) → HasOthers cause → (setting : Setting)
    → (before : List Item) (row number : ℕ) (step : Step)
    → let here = before ++ Item.Row row step ∷ [] in
    JournalItemsHaveCauses cause here (machine_deliver_items setting before number here)
unfolding machine_deliver_items
deliver_have cause others setting before row number step =
    by_test (is_deliverable before number) refl
  where
    here : List Item
    here = before ++ Item.Row row step ∷ []

    next : Item
    next = Item.Delivered number

    by_test : (b : Bool) → is_deliverable before number ≡ b → JournalItemsHaveCauses cause here (elim b [
      | false ↦ nothing
      | true ↦ journal_items_then (next ∷ []) (machine_delivery_items setting before number) here
    ])
    by_test false e = (others.aside here Item.Nothing tt, tt)
    by_test true e = have_first cause next (machine_delivery_items setting before number) here
        (others.delivered here number
        ((message_keeps number before (Item.Row row step ∷ []) (refl, tt)).deliverable ∙ e))
        (aside_have cause others _ _ (delivery_aside setting before number (here ++ next ∷ [])))

restart_have : (cause : List Item → Item → Type 0) → HasOthers cause → (s : ℕ)
    → (journal : List Item) → JournalItemsHaveCauses cause journal (machine_restart_items s journal)
unfolding machine_restart_items
restart_have cause others s journal = by_up (is_up journal s) refl where
  next : Item
  next = Item.Booted s (journal_boot_of journal s + 1)

  hello : List Item → List Item
  hello booted = machine_send_items booted (machine_hello_of booted s ∷ [])

  by_up : (b : Bool) → is_up journal s ≡ b → JournalItemsHaveCauses cause journal (elim b [
    | true ↦ nothing
    | false ↦ journal_items_then (next ∷ []) hello journal
  ])
  by_up true e = (others.aside journal Item.Nothing tt, tt)
  by_up false e = have_first cause next hello journal (others.booted journal s e)
      (aside_have cause others (journal ++ next ∷ []) _ (sends_aside (journal ++ next ∷ []) _))

-- the steps of packets that move
abbrev pub moves : Step → Bool
moves (Packet s header) = true
moves (Hop packet) = true
moves _ = false

pub others_have : (cause : List Item → Item → Type 0) → HasOthers cause → (setting : Setting)
    → (before : List Item) (row : ℕ) (step : Step) → IsFalse (moves step)
    → let here = before ++ Item.Row row step ∷ [] in
    JournalItemsHaveCauses cause here (machine_step_items setting before step here)
others_have cause others setting before row (Packet s header) none = absurd cc
others_have cause others setting before row (Hop packet) none = absurd cc
others_have cause others setting before row (Deliver message) none = deliver_have _ others _ _ _ _ _
others_have cause others setting before row (Restart s) none = restart_have cause others s _
others_have cause others setting before row step none =
    aside_have cause others _ _ (step_aside setting before step _ refl)

step_have : (cause : List Item → Item → Type 0) → HasOthers cause
    → ((before : List Item) (next : Item) → IsPlain before next → cause before next)
    → (setting : Setting) (before : List Item) (row : ℕ) (step : Step)
    → let here = before ++ Item.Row row step ∷ [] in
    JournalItemsHaveCauses cause here (machine_step_items setting before step here)
step_have cause others plain setting before row (Packet s header) =
    have_weaker IsPlain cause plain _ _ (step_plain setting before (Packet s header) _ refl)
step_have cause others plain setting before row (Hop packet) =
    have_weaker IsPlain cause plain _ _ (step_plain setting before (Hop packet) _ refl)
step_have cause others plain setting before row step =
    others_have cause others setting before row step refl

pub pieces_have : (cause : List Item → Item → Type 0) → HasOthers cause
    → ((before : List Item) (next : Item) → IsPlain before next → cause before next)
    → (setting : Setting) → PiecesHave cause setting
pieces_have cause others plain setting journal row step = piece_has cause setting journal row step
    (others.aside journal (Item.Row row step) tt) (step_have cause others plain _ journal row step)
