-- Steps that aren't of packets bring no packet on and tell no cache rule.
use Rattle.std.proofs.Common.{[], ◌++◌, ◌∙◌, ◌∷◌, ◌≡◌, Bool, IsTrue, List, None, Option, Some, append-nil, append_assoc, arith, false, map, max, min, refl, subst, sym, true, ℕ, rules}
use Rattle.control_laws.proofs.Exports.{Control, IsCommand, IsControl, controller_control, deliver_has, each_by_controller, each_by_switch, each_to_member, have_weaker, later_versions, own, resent_has, sends_each, switch_cases, update_has}
use Rattle.base.specs.Exports.{has}
use Rattle.update_machine.specs.Exports.{Action, MachineAuthorityRule, Body, CacheRule, Found, JournalItemsHaveCauses, Header, How, IsMachineLinkStep, Item, Leg, LinkDown, LinkUp, Message, Restart, Setting, Step, Update, machine_advert_to, machine_arrive_items, machine_authority_items, journal_authority_rule, machine_deliver_items, machine_end_items, machine_expire_items, machine_forget_items, machine_found_items, machine_item_gives_travelling, machine_onward_items, journal_packet_header_at, machine_hop_items, journal_items_then, machine_leg_items, journal_leg_of, journal_link_changes, machine_link_items, machine_lookup_at, machine_lookup_items, machine_messages_of, machine_messages_over_link, machine_move_items, near, journal_next_switch, nothing, machine_packet_items, journal_present_step, machine_reroute_items, machine_resend_items, machine_restart_items, journal_packet_route, machine_send_items, serves, journal_stamp_of, machine_stuck_on_leg_item, journal_switch_items, machine_switches_in, travels_in_journal, journal_unacked_installs, machine_update_items, journal_versions_from_current}
use Rattle.update_machine.proofs.Exports.{folded_append, have_first}
use Rattle.packet_laws.specs.Exports.{IsPacketMoving, OnWay, HasPacketItemCause, gives_packet_stage}
use Rattle.packet_laws.proofs.PacketBlocks.{ended, stage_more, stage_stays, travels_more}
use Rattle.base.proofs.Exports.{⊤, AllByRecursion, each_always, each_flat_map, each_map}

-- ---- a switch is done with a packet at the end of its blocks: the packet is on its way, or ended

-- ---- one item

-- an item with which the switch is done with the packet
ends_done : (journal : List Item) (next : Item) (i : ℕ) → machine_item_gives_travelling i next ≡ Some false
    → IsPacketMoving (journal ++ next ∷ []) i
ends_done journal next i ends travelling = absurd (cc (ended journal next i ends))

moves_done : (journal : List Item) (next : Item) (i : ℕ) → gives_packet_stage i next ≡ Some OnWay
    → IsPacketMoving (journal ++ next ∷ []) i
moves_done journal next i moves travelling = stage_more journal next i OnWay moves

-- one that says nothing of it
pub silent_done : (journal : List Item) (next : Item) (i : ℕ) → machine_item_gives_travelling i next ≡ None
    → gives_packet_stage i next ≡ None → IsPacketMoving journal i → IsPacketMoving (journal ++ next ∷ []) i
silent_done journal next i travels_on stays done travelling = stage_stays journal next i stays
    ∙ done (rw (travels_more journal next i, travels_on) at travelling)

none_done : (journal : List Item) (i : ℕ) → IsPacketMoving journal i → IsPacketMoving (journal ++ []) i
none_done journal i done = subst (λ js. IsPacketMoving js i) (sym (append-nil journal)) done

-- items, and a block behind them
put_done : (items : List Item) (rest : List Item → List Item) (journal : List Item) (i : ℕ)
    → IsPacketMoving ((journal ++ items) ++ rest (journal ++ items)) i
    → IsPacketMoving (journal ++ journal_items_then items rest journal) i
put_done items rest journal i done = search (rules, append_assoc)

-- ---- blocks

leg_done : (setting : Setting) (journal : List Item) (i s : ℕ) (leg : Leg)
    → IsPacketMoving (journal ++ machine_leg_items setting journal i s leg) i
unfolding machine_leg_items
leg_done setting journal i s leg = search (rules, ends_done, moves_done)

end_done : (setting : Setting) (i s : ℕ) (act : Action) (journal : List Item)
    → IsPacketMoving (journal ++ machine_end_items setting i s act journal) i
unfolding machine_end_items
end_done setting i s act journal = search (rules, ends_done, leg_done)

authority_done : (setting : Setting) (i s : ℕ) (o : Option MachineAuthorityRule) (journal : List Item)
    → (o ≡ None → IsPacketMoving journal i)
    → IsPacketMoving (journal ++ machine_authority_items setting i s o journal) i
unfolding machine_authority_items
authority_done setting i s None journal none = none_done journal i (none refl)
authority_done setting i s (Some rule) journal none = search (rules, put_done, none_done, end_done)

-- where the lookup gives a rule that isn't there, nothing is written
abbrev NoRule : Setting → List Item → ℕ → ℕ → Type 0
NoRule setting journal i s = (partition place : ℕ)
    → machine_lookup_at setting journal s (journal_packet_header_at journal i) ≡ Found.Authority partition place
    → journal_authority_rule setting journal (journal_stamp_of journal s) partition place ≡ None
    → IsPacketMoving journal i

lookup_done : (setting : Setting) (i s : ℕ) (journal : List Item) → NoRule setting journal i s
    → IsPacketMoving (journal ++ machine_lookup_items setting i s journal) i
unfolding machine_lookup_items
lookup_done setting i s journal none = by_found _ refl where
  by_found : (what : Found) → machine_lookup_at setting journal s (journal_packet_header_at journal i) ≡ what
      → IsPacketMoving (journal ++ machine_found_items setting i s what journal) i
  by_found (Found.Cached entry) e =
      let decided : Item =
      Item.Decided i entry.version entry.rule entry.action (How.Cached entry.message) in
      put_done (decided ∷ []) (machine_end_items setting i s entry.action) journal i
      (end_done setting i s entry.action (journal ++ decided ∷ []))
  by_found (Found.Authority partition place) e = authority_done setting i s _ journal
      (none partition place e)
  by_found (Found.Redirect partition targets) e = leg_done setting journal i s _

arrive_done : (setting : Setting) (i s : ℕ) (journal : List Item) → IsPacketMoving journal i
    → IsPacketMoving (journal ++ machine_arrive_items setting i s journal) i
unfolding machine_arrive_items
arrive_done setting i s journal done =
    grind (arith, none_done, ends_done, own, lookup_done, authority_done, done)

go_on_done : (setting : Setting) (i s : ℕ) (journal : List Item) → IsPacketMoving journal i
    → IsPacketMoving (journal ++ machine_onward_items setting i s journal) i
go_on_done setting i s journal done = grind (arith, arrive_done, moves_done, own, done)

reroute_done : (setting : Setting) (i s : ℕ) (leg : Leg) (journal : List Item)
    → journal_leg_of journal i ≡ Some leg → IsPacketMoving (journal ++ machine_reroute_items setting i s journal) i
unfolding machine_reroute_items
reroute_done setting i s leg journal takes = rw takes (by_route (journal_packet_route setting journal i s leg))
  where
    by_route : (o : Option (List ℕ)) → IsPacketMoving (journal ++ elim o [
      | None ↦ machine_stuck_on_leg_item setting journal i s leg ∷ []
      | Some route ↦ journal_items_then (Item.Rerouted i route ∷ []) (machine_onward_items setting i s) journal
    ]) i
    by_route None = ends_done journal (machine_stuck_on_leg_item setting journal i s leg) i (rw (own i) refl)
    by_route (Some route) = put_done (Item.Rerouted i route ∷ []) (machine_onward_items setting i s) journal i
        (go_on_done setting i s _ (moves_done journal (Item.Rerouted i route) i (rw (own i) refl)))

leg_stays : (journal : List Item) (i s next : ℕ)
    → journal_leg_of (journal ++ Item.FoundDown i s next ∷ []) i ≡ journal_leg_of journal i
unfolding journal_leg_of
leg_stays journal i s next = folded_append _ None journal (Item.FoundDown i s next ∷ [])

move_done : (setting : Setting) (i s : ℕ) (leg : Leg) (journal : List Item)
    → journal_leg_of journal i ≡ Some leg → IsPacketMoving journal i
    → IsPacketMoving (journal ++ machine_move_items setting i s journal) i
unfolding machine_move_items
move_done setting i s leg journal takes done = by_next (journal_next_switch journal i) where
  by_link : (next : ℕ) (b : Bool) → IsPacketMoving (journal ++ elim b [
    | true ↦ Item.Hopped i next ∷ []
    | false ↦ journal_items_then (Item.FoundDown i s next ∷ []) (machine_reroute_items setting i s) journal
  ]) i
  by_link next true = moves_done journal (Item.Hopped i next) i (rw (own i) refl)
  by_link next false = put_done (Item.FoundDown i s next ∷ []) (machine_reroute_items setting i s) journal i
      (reroute_done setting i s leg _ (leg_stays journal i s next ∙ takes))

  by_next : (o : Option ℕ) → IsPacketMoving (journal ++ elim o [
    | None ↦ machine_arrive_items setting i s journal
    | Some next ↦ elim (has (near setting journal s) next) [
      | true ↦ Item.Hopped i next ∷ []
      | false ↦ journal_items_then (Item.FoundDown i s next ∷ []) (machine_reroute_items setting i s) journal
    ]
  ]) i
  by_next None = arrive_done setting i s journal done
  by_next (Some next) = by_link next (has (near setting journal s) next)

-- ---- steps

pub hop_done : (setting : Setting) (i : ℕ) (journal : List Item)
    → (IsTrue (travels_in_journal journal i) → (leg : Leg) × (journal_leg_of journal i ≡ Some leg))
    → IsPacketMoving journal i → IsPacketMoving (journal ++ machine_hop_items setting i journal) i
unfolding machine_hop_items
hop_done setting i journal takes done = search (rules, silent_done, move_done)

-- a packet that enters is done with where each rule of its lookup is there
pub packet_done : (setting : Setting) (i s : ℕ) (header : Header) (journal : List Item)
    → (IsTrue (serves journal s) → (partition place : ℕ)
    → let entered = journal ++ Item.Entered i s header ∷ [] in
    machine_lookup_at setting entered s (journal_packet_header_at entered i) ≡ Found.Authority partition place
    → journal_authority_rule setting entered (journal_stamp_of entered s) partition place ≡ None → ⊥)
    → IsPacketMoving journal i → IsPacketMoving (journal ++ machine_packet_items setting i s header journal) i
unfolding machine_packet_items
packet_done setting i s header journal there done = by_serving (serves journal s) refl where
  by_serving : (b : Bool) → serves journal s ≡ b → IsPacketMoving (journal ++ elim b [
    | false ↦ Item.Closed i s ∷ []
    | true ↦ journal_items_then (Item.Entered i s header ∷ []) (machine_lookup_items setting i s) journal
  ]) i
  by_serving false e = silent_done journal (Item.Closed i s) i refl refl done
  by_serving true e = put_done _ (machine_lookup_items setting i s) journal i (lookup_done setting i s _
      (λ partition place answer none. absurd (there e partition place answer none)))

-- ---- other blocks

-- ---- items

abbrev IsOther : Body → Type 0
IsOther (CacheRule version word rule action) = ⊥
IsOther _ = ⊤

-- an item of no packet, and of no cache rule; one that changes a switch or a link, or submits a
-- version, is by its row
abbrev pub IsAside : List Item → Item → Type 0
IsAside before (Item.Sent number message) = IsOther message.body
IsAside before (Item.Delivered number) = ⊤
IsAside before (Item.Forgotten number) = ⊤
IsAside before (Item.Expired s place number) = ⊤
IsAside before (Item.Booted s boot) = journal_present_step before ≡ Some (Restart s)
IsAside before (Item.Opened s version) = ⊤
IsAside before (Item.OverNow s) = ⊤
IsAside before (Item.LinkIs one two up) = IsMachineLinkStep (journal_present_step before) one two up
IsAside before (Item.Submitted file version) = journal_present_step before ≡ Some (Update file)
IsAside before (Item.Refused file code) = ⊤
IsAside before (Item.Current version) = ⊤
IsAside before (Item.Retired version) = ⊤
IsAside before Item.Nothing = ⊤
IsAside before _ = ⊥

abbrev pub AreAside : List Item → List Item → Type 0
AreAside journal items = JournalItemsHaveCauses IsAside journal items

aside_way : (setting : Setting) (before : List Item) (next : Item) → IsAside before next
    → HasPacketItemCause setting before next
aside_way setting before (Item.Sent number message) aside = by_body message.body aside where
  by_body : (body : Body) → IsOther body
      → HasPacketItemCause setting before (Item.Sent number (record { to = message.to; body = body }))
  by_body (CacheRule version word rule action) other = absurd other
  by_body _ other = tt
aside_way setting before (Item.Delivered number) aside = tt
aside_way setting before (Item.Forgotten number) aside = tt
aside_way setting before (Item.Expired s place number) aside = tt
aside_way setting before (Item.Booted s boot) aside = aside
aside_way setting before (Item.Opened s version) aside = tt
aside_way setting before (Item.OverNow s) aside = tt
aside_way setting before (Item.LinkIs one two up) aside = aside
aside_way setting before (Item.Submitted file version) aside = aside
aside_way setting before (Item.Refused file code) aside = tt
aside_way setting before (Item.Current version) aside = tt
aside_way setting before (Item.Retired version) aside = tt
aside_way setting before Item.Nothing aside = tt
aside_way setting before _ aside = absurd aside

pub aside_ways : (setting : Setting) (journal items : List Item) → AreAside journal items
    → JournalItemsHaveCauses (HasPacketItemCause setting) journal items
aside_ways setting journal items aside = search (rules, have_weaker)

-- ---- messages

abbrev TellsOther : Message → Type 0
TellsOther message = IsOther message.body

abbrev AreOther : List Message → Type 0
AreOther messages = AllByRecursion TellsOther messages

sends_aside : (journal : List Item) (messages : List Message) → AreOther messages
    → AreAside journal (machine_send_items journal messages)
sends_aside = sends_each IsAside TellsOther (λ before n message is. is)

each_other : {X : Type 0} (to : X → Message) → ((x : X) → IsOther (to x).body) → (xs : List X)
    → AreOther (map to xs)
each_other to other xs = each_map TellsOther to xs (each_always (λ x. IsOther (to x).body) other xs)

to_each : {X : Type 0} (journal : List Item) (to : X → Message) → ((x : X) → IsOther (to x).body)
    → (xs : List X) → AreAside journal (machine_send_items journal (map to xs))
to_each journal to other xs = sends_aside journal (map to xs) (each_other to other xs)

-- ---- the controller

command_other : (body : Body) → IsCommand body → IsOther body
command_other body is = search rules

control_is_aside : (before : List Item) (next : Item) → IsControl before next → IsAside before next
control_is_aside before next is = search (rules, command_other)

pub control_aside : (journal items : List Item) → Control journal items → AreAside journal items
control_aside = have_weaker IsControl IsAside control_is_aside

pub update_aside : (setting : Setting) (file : ℕ) (journal : List Item)
    → journal_present_step journal ≡ Some (Update file)
    → AreAside journal (machine_update_items setting file journal)
update_aside setting file journal is = search (rules, update_has, control_is_aside)

-- ---- links and switches

over_other : (setting : Setting) (before journal : List Item) (s neighbour : ℕ)
    → AreOther (machine_messages_over_link setting before journal s neighbour)
over_other setting before journal s neighbour = search (rules, each_other)

pub changes_aside : (setting : Setting) (before journal : List Item)
    → AreAside journal (journal_link_changes setting before journal)
unfolding journal_link_changes
changes_aside setting before journal = sends_aside journal _
    (each_flat_map TellsOther (machine_messages_of setting before journal)
    (λ s. each_flat_map TellsOther (machine_messages_over_link setting before journal s) (λ neighbour. over_other
    setting before journal s neighbour) (machine_switches_in setting (near setting journal s))) _)

-- the row that brings a link back, or fails it
abbrev pub link_step : ℕ → ℕ → Bool → Step
link_step one two true = LinkUp one two
link_step one two false = LinkDown one two

link_named : (step : Option Step) (one two : ℕ) (up : Bool) → step ≡ Some (link_step one two up)
    → IsMachineLinkStep step (min one two) (max one two) up
link_named step one two up is = search rules

pub link_aside : (setting : Setting) (before : List Item) (one two : ℕ) (up : Bool)
    (journal : List Item) → journal_present_step journal ≡ Some (link_step one two up)
    → AreAside journal (machine_link_items setting before one two up journal)
unfolding machine_link_items
link_aside setting before one two up journal is =
    grind (arith, have_first, changes_aside, link_named (journal_present_step journal) one two up is)

pub restart_aside : (s : ℕ) (journal : List Item) → journal_present_step journal ≡ Some (Restart s)
    → AreAside journal (machine_restart_items s journal)
unfolding machine_restart_items
restart_aside s journal is = grind (arith, have_first, sends_aside)

pub forget_aside : (number : ℕ) (journal : List Item)
    → AreAside journal (machine_forget_items number journal)
unfolding machine_forget_items
forget_aside number journal = grind arith

pub expire_aside : (setting : Setting) (s place : ℕ) (journal : List Item)
    → AreAside journal (machine_expire_items setting s place journal)
unfolding machine_expire_items
expire_aside setting s place journal = grind arith

-- ---- deliveries

switch_aside : (setting : Setting) (before : List Item) (s : ℕ) (body : Body)
    (journal : List Item) → AreAside journal (journal_switch_items setting before s body journal)
switch_aside setting before s body journal = switch_cases (AreAside journal) setting before s body
    journal (λ boot version. sends_aside journal _ (tt, tt))
    (λ boot version. sends_aside journal _ (tt, tt))
    (λ boot version is. grind (arith, have_first, changes_aside)) (λ advert is news. to_each journal
    (λ neighbour. machine_advert_to neighbour advert) (λ neighbour. tt) _) tt

pub deliver_aside : (setting : Setting) (before : List Item) (number : ℕ) (journal : List Item)
    → AreAside journal (machine_deliver_items setting before number journal)
deliver_aside setting before number journal = deliver_has IsAside setting before number journal tt
    tt (λ body sent. control_aside _ _ (controller_control setting before body _))
    (λ s body said. switch_aside setting before s body _)

-- ---- sending again

unacked_other : (setting : Setting) (journal : List Item) (s : ℕ) (versions : List ℕ)
    → AreOther (journal_unacked_installs setting journal s versions)
unacked_other setting journal s versions = search (rules, each_other)

pub resend_aside : (setting : Setting) (s : ℕ) (journal : List Item)
    → AreAside journal (machine_resend_items setting s journal)
resend_aside setting s journal = resent_has IsAside TellsOther setting s journal tt
    (sends_aside journal) (each_by_switch TellsOther setting journal s (λ up. tt)
    (each_flat_map TellsOther _ (λ neighbour. each_other (machine_advert_to neighbour) (λ advert. tt) _)
    (machine_switches_in setting (near setting journal s))))
    (each_by_controller TellsOther setting journal s (λ none member. each_to_member TellsOther
    setting journal s tt (unacked_other setting journal s (later_versions journal)) tt (λ some. tt))
    (λ none. unacked_other setting journal s (journal_versions_from_current journal)))
