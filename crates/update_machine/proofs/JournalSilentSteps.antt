-- What is counted over the steps of a journal stays as it is behind items that don't concern it.
use Rattle.std.proofs.Common.{[], ◌++◌, ◌+◌, ◌||◌, ◌∙◌, ◌∷◌, ◌≡◌, Bool, IsFalse, List, None, Option, add-zero, ap, append-nil, append_assoc, arith, false, if◌then◌else◌, refl, subst, sum_by, sym, true, unwrap_or, ℕ}
use Rattle.base.proofs.Exports.{⊤, filter_agree, list_any, option_or, option_or-none, sum_by-cons}
use Rattle.update_machine.specs.Exports.{Hop, Item, LinkRow, NoMachineItemConcerns, MachinePacketKeeps, Setting, MachineStepItems, JournalSwitchKeeps, journal_all_given, journal_body_to_switch, journal_boot_of, journal_cache_of, changes_journal_cache, machine_item_changes_found, changes_journal_heard, machine_item_changes_hops, changes_journal_leg, machine_item_changes_steps, machine_item_concerns_calls, machine_item_concerns_links, machine_item_concerns_packet, machine_item_concerns_switch, machine_count_of, journal_decision_of, journal_first_given, folded_journal_from, journal_folded_value, journal_found_down, machine_item_gives_boot, machine_item_gives_decision, machine_item_gives_header, machine_item_gives_ingress, gives_journal_link, machine_item_gives_route, machine_item_gives_serving, machine_item_gives_standing, machine_item_gives_travelling, machine_item_gives_switch_up, journal_handled_count, journal_packet_header, heard, holds_version, journal_hop_calls, journal_ingress_of, is_machine_entry_at, is_link_up_in_journal, is_journal_message_to, is_machine_packet_move, is_up, is_usable_in_journal, journal_last_given, journal_leg_of, near, journal_next_switch, journal_route_in, journal_route_place, serves, journal_stamp_of, journal_standing_of, journal_hop_stays_on_way, journal_steps_in, machine_stuck_at_link, travels_in_journal, journal_travels_at, machine_steps_with_item}
use Rattle.update_machine.proofs.JournalBlockNumbers.{all_given_append, count_of_append, first_given_append, folded_append, last_given_append}
use Rattle.failover.specs.Exports.{no_failover_links}

-- ---- items that don't concern what a fold says leave it as it is: for each of the folds

-- of items that don't concern it nothing is said, and its value stays as it is
abbrev pub Silent : {X : Type 0} (concerns : List Item → Item → Bool) (says : Item → X)
    (nothing : X) → Type 0
Silent concerns says nothing =
    (before : List Item) (item : Item) → IsFalse (concerns before item) → says item ≡ nothing

abbrev pub Keeps : {X : Type 0} (concerns : List Item → Item → Bool)
    (changes : List Item → X → Item → X) → Type 0
Keeps {X} concerns changes = (before : List Item) (value : X) (item : Item)
    → IsFalse (concerns before item) → changes before value item ≡ value

-- and so does what is said, behind many of them
abbrev pub Stays : {X : Type 0} (concerns : List Item → Item → Bool) (says : List Item → X) → Type 0
Stays concerns says = (before items : List Item) → NoMachineItemConcerns concerns before items
    → says (before ++ items) ≡ says before

-- items that don't concern more than it don't concern it either
pub fewer : (less more : List Item → Item → Bool) →
    ((before : List Item) (item : Item) → IsFalse (more before item) → IsFalse (less before item)) →
    (before items : List Item) → NoMachineItemConcerns more before items → NoMachineItemConcerns less before items
fewer less more implies before [] none = tt
fewer less more implies before (item ∷ items) none =
    (implies before item none.0, fewer less more implies (before ++ item ∷ []) items none.1)

pub neither_left : (b c : Bool) → IsFalse (b || c) → IsFalse b
neither_left true c none = none
neither_left false c none = refl

pub neither_right : (b c : Bool) → IsFalse (b || c) → IsFalse c
neither_right true c none = cc
neither_right false c none = none

-- what one item that doesn't concern it leaves as it is, is left as it is by many
pub stays : {X : Type 0} (says : List Item → X) (concerns : List Item → Item → Bool)
    → ((before : List Item) (item : Item) → IsFalse (concerns before item)
    → says (before ++ item ∷ []) ≡ says before) → Stays concerns says
stays says concerns one before [] none = ap says (append-nil before)
stays says concerns one before (item ∷ items) none =
    ap says (sym (append_assoc before (item ∷ []) items))
    ∙ stays says concerns one (before ++ item ∷ []) items none.1 ∙ one before item none.0

pub last_stays : {X : Type 0} (tells : Item → Option X) (concerns : List Item → Item → Bool)
    → Silent concerns tells None → Stays concerns (journal_last_given tells)
last_stays tells concerns silent = stays (journal_last_given tells) concerns
    (λ js item apart. last_given_append tells js (item ∷ [])
    ∙ ap (λ o. option_or o (journal_last_given tells js)) (silent js item apart))

pub last_or_stays : {X : Type 0} (tells : Item → Option X) (other : X)
    (concerns : List Item → Item → Bool) → Silent concerns tells None
    → Stays concerns (λ js. unwrap_or (journal_last_given tells js) other)
last_or_stays tells other concerns silent before items none =
    ap (λ o. unwrap_or o other) (last_stays tells concerns silent before items none)

pub first_stays : {X : Type 0} (tells : Item → Option X) (concerns : List Item → Item → Bool)
    → Silent concerns tells None → Stays concerns (journal_first_given tells)
first_stays tells concerns silent = stays (journal_first_given tells) concerns
    (λ js item apart. first_given_append tells js (item ∷ [])
    ∙ ap (λ o. option_or (journal_first_given tells js) (option_or o None)) (silent js item apart)
    ∙ option_or-none (journal_first_given tells js))

pub count_stays : (test : Item → Bool) (concerns : List Item → Item → Bool)
    → Silent concerns test false → Stays concerns (machine_count_of test)
count_stays test concerns silent = stays (machine_count_of test) concerns
    (λ js item apart.
    let none_counted : machine_count_of test (item ∷ []) ≡ 0 = rw (silent js item apart) refl in
    count_of_append test js (item ∷ []) ∙ ap (λ k. machine_count_of test js + k) none_counted
    ∙ add-zero (machine_count_of test js))

pub given_stays : {X : Type 0} (gives : Item → List X) (concerns : List Item → Item → Bool)
    → Silent concerns gives [] → Stays concerns (journal_all_given gives)
given_stays gives concerns silent = stays (journal_all_given gives) concerns
    (λ js item apart. all_given_append gives js (item ∷ []) ∙ ap (λ xs. journal_all_given gives js
    ++ (xs ++ [])) (silent js item apart) ∙ append-nil (journal_all_given gives js))

pub folded_stays : {X : Type 0} (changes : List Item → X → Item → X) (start : X)
    (concerns : List Item → Item → Bool) → Keeps concerns changes
    → Stays concerns (journal_folded_value changes start)
folded_stays changes start concerns silent = stays (journal_folded_value changes start) concerns
    (λ js item apart. folded_append changes start js (item ∷ [])
    ∙ silent js (journal_folded_value changes start js) item apart)

-- ---- silent steps

-- ---- the newest step ends where the journal does

abbrev EndsWith : List Item → List MachineStepItems → Type 0
EndsWith journal [] = ⊤
EndsWith journal (newest ∷ steps) = newest.before ++ newest.items ≡ journal

with_ends : (journal : List Item) (item : Item) (steps : List MachineStepItems) → EndsWith journal steps
    → EndsWith (journal ++ item ∷ []) (machine_steps_with_item steps item)
with_ends journal item [] ends = tt
with_ends journal item (newest ∷ steps) ends =
    cc (append_assoc newest.before newest.items (item ∷ []), ends)

more_ends : (journal : List Item) (item : Item) (steps : List MachineStepItems) → EndsWith journal steps
    → EndsWith (journal ++ item ∷ []) (machine_item_changes_steps journal steps item)
more_ends journal (Item.Row row step) steps ends = refl
more_ends journal other steps ends = with_ends journal other steps ends

all_end : (before items : List Item) (steps : List MachineStepItems) → EndsWith before steps
    → EndsWith (before ++ items) (folded_journal_from machine_item_changes_steps before steps items)
all_end before [] steps ends = subst (λ js. EndsWith js steps) (sym (append-nil before)) ends
all_end before (item ∷ items) steps ends = rw (append_assoc before (item ∷ []) items) at
    (all_end (before ++ item ∷ []) items (machine_item_changes_steps before steps item)
    (more_ends before item steps ends))

steps_end : (journal : List Item) → EndsWith journal (journal_steps_in journal)
unfolding journal_steps_in
steps_end journal = all_end [] journal [] tt

-- ---- a weight of steps

abbrev is_row : Item → Bool
is_row (Item.Row row step) = true
is_row _ = false

-- the item alone weighs nothing, and the newest step as much with it as without it
pub record LeavesWeight (weigh : MachineStepItems → ℕ) (before : List Item) (item : Item) : Type 0 where
  pub alone : weigh (record { before = before; items = item ∷ [] }) ≡ 0
  pub more : (newest : MachineStepItems) → newest.before ++ newest.items ≡ before → is_row item ≡ false
      → weigh (record newest { items = newest.items ++ item ∷ [] }) ≡ weigh newest

weight_by : (weigh : MachineStepItems → ℕ) (before : List Item) (item : Item) (steps : List MachineStepItems)
    → EndsWith before steps → LeavesWeight weigh before item
    → sum_by weigh (machine_item_changes_steps before steps item) ≡ sum_by weigh steps
weight_by weigh before (Item.Row row step) steps ends leaves =
    sum_by-cons weigh (record { before = before; items = Item.Row row step ∷ [] }) steps
    ∙ ap (λ k. k + sum_by weigh steps) leaves.alone ∙ omega arith
weight_by weigh before other [] ends leaves = refl
weight_by weigh before other (newest ∷ steps) ends leaves =
    sum_by-cons weigh (record newest { items = newest.items ++ other ∷ [] }) steps
    ∙ ap (λ k. k + sum_by weigh steps) (leaves.more newest ends refl)
    ∙ sym (sum_by-cons weigh newest steps)

pub weight_stays : (weigh : MachineStepItems → ℕ) (before : List Item) (item : Item)
    → LeavesWeight weigh before item
    → sum_by weigh (journal_steps_in (before ++ item ∷ [])) ≡ sum_by weigh (journal_steps_in before)
unfolding journal_steps_in
weight_stays weigh before item leaves =
    ap (sum_by weigh) (folded_append machine_item_changes_steps [] before (item ∷ []))
    ∙ weight_by weigh before item (journal_steps_in before) (steps_end before) leaves

-- ---- calls

-- an item that neither moves a packet on nor finds it stuck
abbrev is_still : Item → Bool
is_still (Item.Hopped packet switch) = false
is_still (Item.Stuck packet switch cause leg down) = false
is_still _ = true

move_more : (last : Item) → is_still last ≡ true → (items : List Item)
    → list_any is_machine_packet_move (items ++ last ∷ []) ≡ list_any is_machine_packet_move items
move_more last still [] = none last still where
  none : (one : Item) → is_still one ≡ true → list_any is_machine_packet_move (one ∷ []) ≡ false
  none (Item.Hopped packet switch) still = cc
  none _ still = refl
move_more last still (first ∷ items) = ap (λ b. is_machine_packet_move first || b) (move_more last still items)

stuck_more : (last : Item) → is_still last ≡ true → (items : List Item)
    → machine_stuck_at_link (items ++ last ∷ []) ≡ machine_stuck_at_link items
stuck_more last still [] = none last where
  none : (one : Item) → machine_stuck_at_link (one ∷ []) ≡ false
  none (Item.FoundDown packet one two) = refl
  none _ = refl
stuck_more last still (Item.FoundDown packet one two ∷ []) = none last still where
  none : (last : Item) → is_still last ≡ true
      → machine_stuck_at_link (Item.FoundDown packet one two ∷ last ∷ []) ≡ false
  none (Item.Stuck i s cause leg down) still = cc
  none (Item.FoundDown i a b) still = refl
  none _ still = refl
stuck_more last still (Item.FoundDown packet one two ∷ Item.Stuck i s cause leg down ∷ items) = refl
stuck_more last still (Item.FoundDown packet one two ∷ next ∷ items) =
    stuck_more last still (next ∷ items)
stuck_more last still (first ∷ items) = stuck_more last still items

calls_more : (s : ℕ) (newest : MachineStepItems) (more : List Item) (last : Item) → is_still last ≡ true
    → is_row last ≡ false → (items : List Item)
    → journal_hop_calls s (record newest { items = more }) (items ++ last ∷ []) ≡ journal_hop_calls s newest items
calls_more s newest more (Item.Row row step) still row_less [] = cc
calls_more s newest more other still row_less [] = refl
calls_more s newest more last still row_less (Item.Row row (Hop packet) ∷ items) =
    ap (λ b. if journal_travels_at newest.before s packet then (if b then 1 else 2) else 0) same
  where
    same : journal_hop_stays_on_way (items ++ last ∷ []) ≡ journal_hop_stays_on_way items
    same = rw (move_more last still items, stuck_more last still items) refl
calls_more s newest more last still row_less (first ∷ items) = refl

calls_still : (s : ℕ) (before : List Item) (item : Item) → IsFalse (machine_item_concerns_calls s before item)
    → is_still item ≡ true
calls_still s before (Item.Hopped packet switch) apart = cc
calls_still s before (Item.Stuck packet switch cause leg down) apart = cc
calls_still s before _ apart = refl

calls_alone : (s : ℕ) (before : List Item) (item : Item) → IsFalse (machine_item_concerns_calls s before item)
    → journal_hop_calls s (record { before = before; items = item ∷ [] }) (item ∷ []) ≡ 0
calls_alone s before (Item.Row row (Hop packet)) apart = rw apart refl
calls_alone s before (Item.Row row other) apart = refl
calls_alone s before _ apart = refl

entry_silent : (s : ℕ) → Silent (machine_item_concerns_calls s) (is_machine_entry_at s) false
entry_silent s before (Item.Entered packet switch header) apart = apart
entry_silent s before (Item.Closed packet switch) apart = apart
entry_silent s before _ apart = refl

call_stays : (s : ℕ) (before : List Item) (item : Item) → IsFalse (machine_item_concerns_calls s before item)
    → journal_handled_count (before ++ item ∷ []) s ≡ journal_handled_count before s
unfolding journal_handled_count
call_stays s before item apart =
    let entries = count_stays (is_machine_entry_at s) (machine_item_concerns_calls s) (entry_silent s) before
    (item ∷ []) (apart, tt) in
    let calls : sum_by (λ step. journal_hop_calls s step step.items) (journal_steps_in (before ++ item ∷ []))
    ≡ sum_by (λ step. journal_hop_calls s step step.items) (journal_steps_in before) =
    weight_stays (λ step. journal_hop_calls s step step.items) before item (record {
      alone = calls_alone s before item apart;
      more = λ newest ends row_less. calls_more s newest (newest.items ++ item ∷ []) item
          (calls_still s before item apart) row_less newest.items;
    }) in
    rw (entries, calls) refl

pub calls_stay : (s : ℕ) → Stays (machine_item_concerns_calls s) (λ js. journal_handled_count js s)
calls_stay s before items none =
    stays (λ js. journal_handled_count js s) (machine_item_concerns_calls s) (call_stays s) before items none

-- ---- items that don't concern a switch, or the links, leave its facts as they are

boot_silent : (s : ℕ) → Silent (machine_item_concerns_switch s) (machine_item_gives_boot s) None
boot_silent s before (Item.Booted switch boot) apart = rw apart refl
boot_silent s before _ apart = refl

up_silent : (s : ℕ) → Silent (machine_item_concerns_switch s) (machine_item_gives_switch_up s) None
up_silent s before (Item.Booted switch boot) apart = rw apart refl
up_silent s before (Item.Down switch) apart = rw apart refl
up_silent s before _ apart = refl

serving_silent : (s : ℕ) → Silent (machine_item_concerns_switch s) (machine_item_gives_serving s) None
serving_silent s before (Item.Booted switch boot) apart = rw apart refl
serving_silent s before (Item.Down switch) apart = rw apart refl
serving_silent s before (Item.Opened switch version) apart = rw apart refl
serving_silent s before _ apart = refl

-- a message for another receiver says nothing to the switch
said_nothing : (before : List Item) (s number : ℕ) → IsFalse (is_journal_message_to before s number)
    → journal_body_to_switch before s number ≡ None
said_nothing before s number apart = grind arith

heard_silent : (s : ℕ) → Keeps (machine_item_concerns_switch s) (changes_journal_heard s)
heard_silent s before bodies (Item.Booted switch boot) apart = rw apart refl
heard_silent s before bodies (Item.Down switch) apart = rw apart refl
heard_silent s before bodies (Item.Delivered number) apart = rw (said_nothing before s number apart)
    refl
heard_silent s before bodies _ apart = refl

cache_silent : (setting : Setting) (s : ℕ) → Keeps (machine_item_concerns_switch s) (changes_journal_cache setting s)
cache_silent setting s before cache (Item.Booted switch boot) apart = rw apart refl
cache_silent setting s before cache (Item.Down switch) apart = rw apart refl
cache_silent setting s before cache (Item.Expired switch place message) apart = rw apart refl
cache_silent setting s before cache (Item.Delivered number) apart = rw (said_nothing before s number apart)
    refl
cache_silent setting s before cache _ apart = refl

pub switch_keeps : (setting : Setting) (s : ℕ) (before items : List Item)
    → NoMachineItemConcerns (machine_item_concerns_switch s) before items → JournalSwitchKeeps setting s before (before ++ items)
unfolding journal_boot_of is_up serves heard journal_stamp_of holds_version journal_cache_of
switch_keeps setting s before items none =
    let boot = last_or_stays _ 1 _ (boot_silent s) before items none in
    let up = last_or_stays _ true _ (up_silent s) before items none in
    let bodies = folded_stays _ [] _ (heard_silent s) before items none in record {
      boot = boot;
      up = up;
      serving = last_or_stays _ true _ (serving_silent s) before items none;
      heard = bodies;
      stamp = rw (boot, up, bodies) refl;
      versions = λ v. rw (boot, up, bodies) refl;
      cache = folded_stays _ _ _ (cache_silent setting s) before items none;
    }

-- ---- links

served_silent : (s : ℕ) → Silent machine_item_concerns_links (machine_item_gives_serving s) None
served_silent s before (Item.Booted switch boot) apart = cc
served_silent s before (Item.Down switch) apart = cc
served_silent s before (Item.Opened switch version) apart = cc
served_silent s before _ apart = refl

link_silent : (low high : ℕ) → Silent machine_item_concerns_links (gives_journal_link low high) None
link_silent low high before (Item.LinkIs one two up) apart = cc
link_silent low high before _ apart = refl

served_stays : (before items : List Item) → NoMachineItemConcerns machine_item_concerns_links before items → (s : ℕ)
    → serves (before ++ items) s ≡ serves before s
unfolding serves
served_stays before items none s = last_or_stays _ true _ (served_silent s) before items none

pub link_stays : (before items : List Item) → NoMachineItemConcerns machine_item_concerns_links before items
    → (one other : ℕ) → is_link_up_in_journal (before ++ items) one other ≡ is_link_up_in_journal before one other
unfolding is_link_up_in_journal
link_stays before items none one other = last_or_stays _ true _ (link_silent _ _) before items none

usable_same : (before after : List Item) → ((s : ℕ) → serves after s ≡ serves before s)
    → ((one other : ℕ) → is_link_up_in_journal after one other ≡ is_link_up_in_journal before one other)
    → (link : LinkRow) → is_usable_in_journal after link ≡ is_usable_in_journal before link
usable_same before after serving up link =
    let c : is_link_up_in_journal after link.one link.two ≡ is_link_up_in_journal before link.one link.two =
    up link.one link.two in
    rw ((serving link.one), serving link.two, c) refl

pub near_same : (setting : Setting) (before after : List Item)
    → ((s : ℕ) → serves after s ≡ serves before s)
    → ((one other : ℕ) → is_link_up_in_journal after one other ≡ is_link_up_in_journal before one other)
    → (s : ℕ) → near setting after s ≡ near setting before s
unfolding near
near_same setting before after serving up s = cc (filter_agree (is_usable_in_journal after) (is_usable_in_journal before)
    (usable_same before after serving up) setting.net.links)

pub near_stays : (setting : Setting) (s : ℕ) → Stays machine_item_concerns_links (λ js. near setting js s)
near_stays setting s before items none = near_same setting before
    (before ++ items) (served_stays before items none) (link_stays before items none) s

-- ---- items that don't concern a packet leave its facts as they are

header_silent : (i : ℕ) → Silent (machine_item_concerns_packet i) (machine_item_gives_header i) None
header_silent i before (Item.Entered packet switch header) apart = rw apart refl
header_silent i before _ apart = refl

ingress_silent : (i : ℕ) → Silent (machine_item_concerns_packet i) (machine_item_gives_ingress i) None
ingress_silent i before (Item.Entered packet switch header) apart = rw apart refl
ingress_silent i before _ apart = refl

standing_silent : (i : ℕ) → Silent (machine_item_concerns_packet i) (machine_item_gives_standing i) None
standing_silent i before (Item.Entered packet switch header) apart = rw apart refl
standing_silent i before (Item.Hopped packet switch) apart = rw apart refl
standing_silent i before _ apart = refl

travel_silent : (i : ℕ) → Silent (machine_item_concerns_packet i) (machine_item_gives_travelling i) None
travel_silent i before (Item.Entered packet switch header) apart = rw apart refl
travel_silent i before (Item.Dropped packet) apart = rw apart refl
travel_silent i before (Item.Left packet port leaving) apart = rw apart refl
travel_silent i before (Item.Lost packet) apart = rw apart refl
travel_silent i before (Item.Stuck packet switch cause leg down) apart = rw apart refl
travel_silent i before _ apart = refl

decision_silent : (i : ℕ) → Silent (machine_item_concerns_packet i) (machine_item_gives_decision i) None
decision_silent i before (Item.Decided packet version rule action how) apart = rw apart refl
decision_silent i before _ apart = refl

leg_silent : (i : ℕ) → Keeps (machine_item_concerns_packet i) (changes_journal_leg i)
leg_silent i before leg (Item.Seeking packet version partition route) apart = rw apart refl
leg_silent i before leg (Item.Exiting packet route) apart = rw apart refl
leg_silent i before leg _ apart = refl

route_silent : (i : ℕ) → Silent (machine_item_concerns_packet i) (machine_item_gives_route i) None
route_silent i before (Item.Seeking packet version partition route) apart = rw apart refl
route_silent i before (Item.Exiting packet route) apart = rw apart refl
route_silent i before (Item.Rerouted packet route) apart = rw apart refl
route_silent i before _ apart = refl

hops_silent : (i : ℕ) → Keeps (machine_item_concerns_packet i) (machine_item_changes_hops i)
hops_silent i before hops (Item.Seeking packet version partition route) apart = rw apart refl
hops_silent i before hops (Item.Exiting packet route) apart = rw apart refl
hops_silent i before hops (Item.Rerouted packet route) apart = rw apart refl
hops_silent i before hops (Item.Hopped packet switch) apart = rw apart refl
hops_silent i before hops _ apart = refl

found_silent : (i : ℕ) → Keeps (machine_item_concerns_packet i) (machine_item_changes_found i)
found_silent i before links (Item.FoundDown packet one two) apart = rw apart refl
found_silent i before links _ apart = refl

pub packet_keeps : (i : ℕ) (before items : List Item) → NoMachineItemConcerns (machine_item_concerns_packet i) before items
    → MachinePacketKeeps i before (before ++ items)
unfolding journal_packet_header journal_ingress_of journal_standing_of travels_in_journal journal_decision_of journal_leg_of journal_route_in journal_route_place journal_next_switch
    journal_found_down
packet_keeps i before items none =
    let route = last_or_stays _ [] _ (route_silent i) before items none in
    let place = folded_stays _ 0 _ (hops_silent i) before items none in record {
      header = last_stays _ _ (header_silent i) before items none;
      ingress = last_stays _ _ (ingress_silent i) before items none;
      stands = last_stays _ _ (standing_silent i) before items none;
      travels = last_or_stays _ false _ (travel_silent i) before items none;
      decision = last_stays _ _ (decision_silent i) before items none;
      leg = folded_stays _ None _ (leg_silent i) before items none;
      route = route;
      route_place = place;
      next = rw (route, place) refl;
      found = folded_stays _ no_failover_links _ (found_silent i) before items none;
    }
