-- Each piece of a step of the network names what is there, as far as its items alone tell.
use Rattle.std.proofs.Common.{[], ◌++◌, ◌<◌, ◌∙◌, ◌∷◌, ◌≡◌, ◌≤◌, ◌⊎◌, Bool, IsTrue, List, Some, arith, false, filter, flat_map, inl, inr, length, map, not, refl, true, ℕ}
use Rattle.base.proofs.Exports.{AllByRecursion, each_map, nat_tests, ⊤}
use Rattle.update_machine.specs.Exports.{Advertise, Body, CacheRule, Collect, Confirm, Crash, Deliver, JournalItemsHaveCauses, Hello, Install, Installed, Item, Message, OpenAt, Packet, Place, Resend, Restart, Setting, Stamp, Stamped, Step, Tables, Update, machine_advert_to, machine_confirm_items, machine_deliver_items, has_acked, journal_held_adverts, machine_hello_of, journal_install_for, machine_installs_to, machine_installs_to_all, is_over, is_up, is_journal_version, journal_known_boot, journal_message_of, near, journal_next_packet, journal_raises_known_boot, machine_resend_items, journal_resent_by_controller, journal_resent_by_switch, journal_resent_to_member, machine_restart_items, machine_send_items, machine_sent_items_from, machine_settling, machine_step_items, machine_submitted_items, journal_switch_items, machine_switches_in, machine_switches_of, machine_message_to_switch, machine_update_items, journal_version_count, journal_versions_from_current}
use Rattle.update_machine.proofs.Exports.{have_in_turn}
use Rattle.control_laws.proofs.ControlFactsGrown.{have_weaker, hello_above, known_more, message_more, piece_has}
use Rattle.control_laws.proofs.ControlCommands.{IsCommand, grows, settling_settles}
use Rattle.control_laws.proofs.ControlStampingSwitches.{crash_has}
use Rattle.control_laws.proofs.ControlPieceCauses.{row_delivers, said_parts}
use Rattle.control_laws.proofs.ControlMarksAtEnds.{NamesOwn, OwnPiecesHave}
use Rattle.control_laws.proofs.ControlSwitchOpenings.{each_by_controller, each_to_member, later_versions, resent_has}
use Rattle.control_laws.proofs.ControlMessageSends.{SettlingHas, each_of_network, parts_have, sends_kept, settling_has}
use Rattle.control_laws.proofs.ControlTrafficItems.{IsAdvert, IsAdvertTo, IsIngress, IsTraffic, Traffic, adverts_to, between_cases, each_told, links_traffic, masked_there, packet_has, passed_traffic, step_traffic}
use Rattle.control_laws.proofs.ControlSaidToController.{each_weaker, known_first}
use Rattle.ternary.specs.Exports.{WordValue}

-- ---- what a message names

-- the switch is of the network, or the controller heard of another boot than its first
abbrev pub IsKnownSwitch : Setting → List Item → ℕ → Type 0
IsKnownSwitch setting before s = (s < length setting.net.switches) ⊎ (1 < journal_known_boot before s)

-- what the controller says to switches, what these say of themselves, and adverts
abbrev pub SaysOwn : Setting → List Item → Place → Body → Type 0
SaysOwn setting before (Place.Switch s) (Advertise advert) = s < length setting.net.switches
SaysOwn setting before (Place.Switch s) (Collect boot version) =
    (1 ≤ version) × IsKnownSwitch setting before s
SaysOwn setting before (Place.Switch s) body = IsCommand body × IsKnownSwitch setting before s
SaysOwn setting before Place.Controller (Hello s boot) = s < length setting.net.switches
SaysOwn setting before to body = ⊥

-- the switch answers a message that was sent to it
pub record AnswersTo (before : List Item) (s : ℕ) (body : Body) : Type 0 where
  pub number : ℕ
  pub sent : journal_message_of before number ≡ Some (machine_message_to_switch s body)

pub record AnswersTables (before : List Item) (s boot version : ℕ) : Type 0 where
  pub tables : Tables
  pub own : tables.version ≡ version
  pub answers : AnswersTo before s (Install boot tables)

pub record AnswersStamp (before : List Item) (s boot version : ℕ) : Type 0 where
  pub touched : List WordValue
  pub answers : AnswersTo before s (Stamp boot version touched)

abbrev pub SaysThere : Setting → List Item → Place → Body → Type 0
SaysThere setting before (Place.Switch s) (CacheRule version word rule action) =
    IsTrue (is_journal_version before version) × IsIngress before s
SaysThere setting before Place.Controller (Installed s boot version) =
    AnswersTables before s boot version
SaysThere setting before Place.Controller (Stamped s boot version) =
    AnswersStamp before s boot version
SaysThere setting before to body = SaysOwn setting before to body

abbrev pub NamesRightly : Setting → List Item → Item → Type 0
NamesRightly setting before (Item.Sent number message) =
    SaysThere setting before message.to message.body
NamesRightly setting before (Item.Entered packet s header) = s < length setting.net.switches
NamesRightly setting before _ = ⊤

abbrev Name : Setting → List Item → List Item → Type 0
Name setting journal items = JournalItemsHaveCauses (NamesRightly setting) journal items

-- ---- traffic

traffic_names : (setting : Setting) (before : List Item) (next : Item)
    → IsTraffic setting before next → NamesRightly setting before next
traffic_names setting before (Item.Sent number message) is = between_cases setting before
    (SaysThere setting before) (λ s version word rule action there ingress. (there, ingress))
    (λ s advert there. there) message.to message.body is
traffic_names setting before (Item.Entered packet s header) is = absurd is
traffic_names setting before next is = tt

traffic_name : (setting : Setting) (journal items : List Item) → Traffic setting journal items
    → Name setting journal items
traffic_name setting =
    have_weaker (IsTraffic setting) (NamesRightly setting) (traffic_names setting)

-- ---- messages one after another

abbrev IsOwn : Setting → List Item → Message → Type 0
IsOwn setting before message = SaysOwn setting before message.to message.body

known_sent : (setting : Setting) (before : List Item) (n s : ℕ) (message : Message)
    → IsKnownSwitch setting before s → IsKnownSwitch setting (before ++ Item.Sent n message ∷ []) s
known_sent setting before n s message known = elim known [
  | inl there ↦ inl there
  | inr heard ↦ inr (omega (arith, heard, known_more before (Item.Sent n message) s))
]

own_sent : (setting : Setting) (before : List Item) (n : ℕ) (message : Message) (to : Place)
    (body : Body) → SaysOwn setting before to body
    → SaysOwn setting (before ++ Item.Sent n message ∷ []) to body
own_sent setting before n message (Place.Switch s) (Advertise advert) own = own
own_sent setting before n message (Place.Switch s) body own =
    (own.0, known_sent setting before n s message own.1)
own_sent setting before n message Place.Controller (Hello s boot) own = own
own_sent setting before n message to body own = absurd own

own_names : (setting : Setting) (before : List Item) (to : Place) (body : Body)
    → SaysOwn setting before to body → SaysThere setting before to body
own_names setting before (Place.Switch s) (CacheRule version word rule action) own = absurd own.0
own_names setting before Place.Controller (Installed s boot version) own = absurd own
own_names setting before Place.Controller (Stamped s boot version) own = absurd own
own_names setting before to body own = own

sends_name : (setting : Setting) (journal : List Item) (messages : List Message)
    → AllByRecursion (IsOwn setting journal) messages
    → Name setting journal (machine_send_items journal messages)
sends_name setting = sends_kept (NamesRightly setting) (IsOwn setting)
    (λ before n message own. own_names setting before message.to message.body own)
    (λ before n message other new own. own_sent setting before n message other.to other.body own)

-- ---- messages to switches of the network

installs_own : (setting : Setting) (journal : List Item) (s : ℕ) (versions : List ℕ)
    → IsKnownSwitch setting journal s → AllByRecursion (IsOwn setting journal)
    (map (λ version. journal_install_for setting journal version s) versions)
installs_own setting journal s [] known = tt
installs_own setting journal s (version ∷ versions) known =
    ((tt, known), installs_own setting journal s versions known)

-- ---- settling

settling_own : (setting : Setting) → SettlingHas (NamesRightly setting) (IsOwn setting) setting
settling_own setting = record {
  sends = sends_name setting;
  rises = λ journal rises. record { may = tt; told = λ s there to member. (tt, inl there) };
  opens = λ journal s there joins. (tt, inl there);
  retires = λ journal rises.
      record { may = tt; told = λ s there to member. (grind (arith, nat_tests), inl there) };
}

settling_name : (setting : Setting) (journal : List Item)
    → Name setting journal (machine_settling setting journal)
settling_name setting = settling_has (NamesRightly setting) setting
    (parts_have (NamesRightly setting) (IsOwn setting) setting (settling_own setting))

-- ---- tables

installs_name : (setting : Setting) (s : ℕ) (journal : List Item)
    → IsKnownSwitch setting journal s → Name setting journal (machine_installs_to setting s journal)
unfolding machine_installs_to
installs_name setting s journal known = sends_name setting journal _
    (installs_own setting journal s (journal_versions_from_current journal) known)

all_installs_name : (setting : Setting) (journal : List Item)
    → Name setting journal (machine_installs_to_all setting journal)
unfolding machine_installs_to_all
all_installs_name setting journal = sends_name setting journal _
    (each_map (IsOwn setting journal) (journal_install_for setting journal (journal_version_count journal))
    (filter (λ s. not (is_over journal s)) (machine_switches_of setting))
    (each_of_network (λ s. ⊤ × IsKnownSwitch setting journal s) setting
    (λ s. not (is_over journal s)) (λ s there is. (tt, inl there))))

submitted_name : (setting : Setting) (journal : List Item)
    → Name setting journal (machine_submitted_items setting journal)
submitted_name setting journal = have_in_turn (NamesRightly setting) (machine_installs_to_all setting
    ∷ machine_settling setting ∷ []) (all_installs_name setting, (settling_name setting, tt)) journal

-- ---- at a switch

switch_name : (setting : Setting) (before now : List Item) (s : ℕ) (body : Body)
    → AnswersTo now s body → Name setting now (journal_switch_items setting before s body now)
unfolding journal_switch_items machine_sent_items_from
switch_name setting before now s (Install boot tables) answers =
    (record { tables = tables; own = refl; answers = answers }, tt)
switch_name setting before now s (Stamp boot version touched) answers =
    (record { touched = touched; answers = answers }, tt)
switch_name setting before now s (OpenAt boot version) answers = grind (arith, traffic_name, links_traffic)
switch_name setting before now s (Advertise advert) answers = grind (arith, traffic_name, passed_traffic)
switch_name setting before now s _ answers = tt

-- ---- at the controller

-- a known boot that is raised is another one than the first, and stays so
raised_known : (setting : Setting) (here : List Item) (s number : ℕ)
    → IsTrue (journal_raises_known_boot here s number)
    → let now = here ++ Item.Delivered number ∷ [] in 1 < journal_known_boot (now ++ machine_settling setting now) s
raised_known setting here s number raises =
    let now : List Item = here ++ Item.Delivered number ∷ [] in
    omega (
      arith,
      (grows now (machine_settling setting now) (settling_settles setting now)).known s,
      known_first here s,
      hello_above here s number raises,
    )

deliver_name : (setting : Setting) (before : List Item) (row number : ℕ) (step : Step)
    → let here = before ++ Item.Row row step ∷ [] in
    Name setting here (machine_deliver_items setting before number here)
deliver_name setting before row number step =
    let here : List Item = before ++ Item.Row row step ∷ [] in
    row_delivers (NamesRightly setting) setting before row number step tt tt
    (settling_name setting _)
    (λ s raises. installs_name setting s _ (inr (raised_known setting here s number raises)))
    (λ s body said. switch_name setting before _ s body (record {
      number = number;
      sent = message_more here (Item.Delivered number) number
          ∙ message_more before (Item.Row row step) number
          ∙ (said_parts before s number body said).sent;
    }))

-- ---- links and switches

update_name : (setting : Setting) (file : ℕ) (journal : List Item)
    → Name setting journal (machine_update_items setting file journal)
unfolding machine_update_items
update_name setting file journal = grind (arith, submitted_name)

restart_name : (setting : Setting) (s : ℕ) (journal : List Item)
    → s < length setting.net.switches → Name setting journal (machine_restart_items s journal)
unfolding machine_restart_items machine_sent_items_from
restart_name setting s journal there = grind arith

confirm_name : (setting : Setting) (s : ℕ) (journal : List Item)
    → Name setting journal (machine_confirm_items setting s journal)
unfolding machine_confirm_items
confirm_name setting s journal = grind (arith, settling_name)

-- ---- what is sent again

advert_own : (setting : Setting) (before : List Item) (to : Place) (body : Body)
    → IsAdvertTo setting to body → SaysOwn setting before to body
advert_own setting before (Place.Switch s) (Advertise advert) is = is
advert_own setting before to body is = absurd is

switch_own : (setting : Setting) (journal : List Item) (s : ℕ) → s < length setting.net.switches
    → AllByRecursion (IsOwn setting journal) (journal_resent_by_switch setting journal s)
switch_own setting journal s there = by_up (is_up journal s) where
  adverts : List Message
  adverts = flat_map (λ neighbour. map (machine_advert_to neighbour) (journal_held_adverts setting journal s))
      (machine_switches_in setting (near setting journal s))

  by_up : (up : Bool) → AllByRecursion (IsOwn setting journal) (elim up [
    | false ↦ []
    | true ↦ machine_hello_of journal s ∷ adverts
  ])
  by_up false = tt
  by_up true = (
    there,
    each_weaker (IsAdvert setting) (IsOwn setting journal)
        (λ message is. advert_own setting journal message.to message.body is) adverts
        (each_told setting (λ neighbour. map (machine_advert_to neighbour) (journal_held_adverts setting journal s))
        (λ neighbour within. adverts_to setting neighbour within (journal_held_adverts setting journal s))
        (machine_switches_in setting (near setting journal s))
        (masked_there setting (near setting journal s))),
  )

member_own : (setting : Setting) (journal : List Item) (s : ℕ) → IsKnownSwitch setting journal s
    → AllByRecursion (IsOwn setting journal) (journal_resent_to_member setting journal s)
member_own setting journal s known = each_to_member (IsOwn setting journal) setting journal s
    (tt, known) (installs_own setting journal s
    (filter (λ version. not (has_acked journal s version)) (later_versions journal)) known)
    (tt, known) (λ some. (grind (arith, nat_tests), known))

controller_own : (setting : Setting) (journal : List Item) (s : ℕ) → IsKnownSwitch setting journal s
    → AllByRecursion (IsOwn setting journal) (journal_resent_by_controller setting journal s)
controller_own setting journal s known = each_by_controller (IsOwn setting journal) setting journal
    s (λ none member. member_own setting journal s known) (λ none. installs_own setting journal s
    (filter (λ version. not (has_acked journal s version)) (journal_versions_from_current journal)) known)

resend_name : (setting : Setting) (s : ℕ) (journal : List Item)
    → s < length setting.net.switches → Name setting journal (machine_resend_items setting s journal)
resend_name setting s journal there = resent_has (NamesRightly setting) (IsOwn setting journal)
    setting s journal tt (sends_name setting journal) (switch_own setting journal s there)
    (controller_own setting journal s (inl there))

-- ---- steps of the network

step_name : (setting : Setting) (before : List Item) (row : ℕ) (step : Step) → NamesOwn setting step
    → let here = before ++ Item.Row row step ∷ [] in
    Name setting here (machine_step_items setting before step here)
step_name setting before row (Packet s header) own = packet_has setting (NamesRightly setting)
    (traffic_names setting) (journal_next_packet before) s header _ own.0
step_name setting before row (Deliver message) own =
    deliver_name setting before row message (Deliver message)
step_name setting before row (Update file) own = update_name setting file _
step_name setting before row (Crash s) own =
    crash_has setting (NamesRightly setting) (traffic_names setting) before s _ (λ up. tt)
step_name setting before row (Restart s) own = restart_name setting s _ own
step_name setting before row (Confirm s) own = confirm_name setting s _
step_name setting before row (Resend s) own = resend_name setting s _ own
step_name setting before row step own =
    traffic_name setting _ _ (step_traffic setting before step _ tt)

pub pieces_name : (setting : Setting) → OwnPiecesHave (NamesRightly setting) setting
pieces_name setting journal row step own =
    piece_has (NamesRightly setting) setting journal row step tt (step_name setting journal _ _ own)
