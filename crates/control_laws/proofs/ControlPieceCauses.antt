-- Each piece has its causes, whatever its step, and so has the journal of any steps.
use Rattle.std.proofs.Common.{[], ◌&&◌, ◌++◌, ◌+◌, ◌-◌, ◌<◌, ◌==◌, ◌||◌, ◌∙◌, ◌∷◌, ◌≡◌, ◌≤◌, Bool, IsFalse, IsTrue, List, None, Option, Some, ap, arith, cond, eq-eqb, eqb-true, false, if◌then◌else◌, inl, inr, length, not, option_and_then, refl, subst, suc, sym, take_while, true, zero, ℕ}
use Rattle.base.proofs.Exports.{cases_eq, each_filter, each_map, list_any, list_any-append, nat_tests, option_map_or, or_right, range_with_len, take_while-cons}
use Rattle.update_machine.specs.Exports.{Advertise, Body, Confirm, Crash, Deliver, JournalItemsHaveCauses, Hello, Install, Installed, Item, MachineCurrentMayRise, Message, OpenAt, Packet, Place, Resend, Restart, Setting, Stamp, Stamped, Step, Update, machine_after_hello, machine_all_acked, journal_body_to_controller, journal_body_to_switch, journal_boot_of, machine_confirm_items, machine_controller_items, journal_current_mark, machine_deliver_items, machine_delivery_items, has_acked, heard, machine_hello_of, machine_blocks_in_turn, journal_install_for, machine_installs_to, machine_installs_to_all, machine_body_installs_version, is_journal_body_for_boot, is_joining, is_member, is_new_boot_in_journal, is_over, is_up, machine_marks_code, journal_message_of, journal_next_current, journal_next_packet, journal_next_retired, journal_opened_at, journal_raises_known_boot, machine_received_items, machine_restart_items, machine_send_items, machine_settling, machine_version_to_stamp_with, journal_stamp_of, machine_step_items, machine_submitted_items, journal_switch_items, machine_switches_of, machine_message_to_switch, machine_update_code, machine_update_items, journal_version_count, journal_versions_from_current}
use Rattle.update_machine.proofs.Exports.{PiecesHave, allowed_next, have_first, have_in_turn, have_put, policies_keep}
use Rattle.control_laws.specs.Exports.{HasControlItemCause, ControlLawHoldsAlways, ControlOpeningHasCause, ControlSubmissionHasCause}
use Rattle.control_laws.proofs.ControlFactsGrown.{FromCauses, Has, boot_more, current_more, heard_more, known_more, message_more, over_more, piece_has, raised, retired_more, stamp_told, up_more}
use Rattle.control_laws.proofs.ControlMessageSends.{IsRight, SettlingHas, each_range, parts_have, resend_have, sends_have, settling_has}
use Rattle.ctrl_msg.specs.Exports.{message_to_controller}
use Rattle.control_laws.proofs.ControlTrafficItems.{links_have, packet_has, passed_traffic, step_traffic, traffic_has, traffic_right}
use Rattle.control_laws.proofs.ControlCommands.{grows, settling_settles}
use Rattle.control_laws.proofs.ControlStampingSwitches.{behind_items, crash_has}

-- ---- what the controller writes has its causes

-- ---- how far current may rise

-- no more elements pass in front than there are, and each of those passes
passing_few : (test : ℕ → Bool) (low n : ℕ) → length (take_while test (range_with_len low n)) ≤ n
passing_few test low zero = omega arith
passing_few test low (suc n) = rw (take_while-cons test low (range_with_len (low + 1) n))
    (by_test (test low) (passing_few test (low + 1) n))
  where
    by_test : (b : Bool) → length (take_while test (range_with_len (low + 1) n)) ≤ n
        → length (cond b (low ∷ take_while test (range_with_len (low + 1) n)) []) ≤ suc n
    by_test true few = omega (arith, few)
    by_test false few = omega arith

passing : (test : ℕ → Bool) (low n v : ℕ) → low ≤ v
    → v < low + length (take_while test (range_with_len low n)) → IsTrue (test v)
passing test low zero v above below = absurd (omega arith)
passing test low (suc n) v above below = by_test (test low) refl (passing test (low + 1) n v)
    (rw (take_while-cons test low (range_with_len (low + 1) n)) at below)
  where
    by_test : (b : Bool) → test low ≡ b → (low + 1 ≤ v
        → v < low + 1 + length (take_while test (range_with_len (low + 1) n)) → IsTrue (test v))
        → v < low + length (cond b (low ∷ take_while test (range_with_len (low + 1) n)) [])
        → IsTrue (test v)
    by_test true e rest within = elim (cases_eq v low) [
      | inl own ↦ ap test own ∙ e
      | inr apart ↦ rest (omega (arith, above, apart)) (omega (arith, within))
    ]
    by_test false e rest within = absurd (omega (arith, above, within))

may_rise : (setting : Setting) (journal : List Item)
    → journal_current_mark journal < journal_next_current setting journal
    → MachineCurrentMayRise setting journal (journal_next_current setting journal)
unfolding journal_next_current
may_rise setting journal rises =
    let few = passing_few (machine_all_acked setting journal) (journal_current_mark journal + 1)
    (journal_version_count journal - journal_current_mark journal) in record {
      rises = rises;
      there = omega (arith, few, rises);
      acknowledged = λ v above below. passing (machine_all_acked setting journal)
          (journal_current_mark journal + 1) (journal_version_count journal - journal_current_mark journal) v
          (omega (arith, above)) (omega (arith, below));
    }

-- ---- settling

-- a joining switch isn't over, and wasn't opened in its known boot
joining_parts : (journal : List Item) (s : ℕ) (more : Bool) → IsTrue (is_joining journal s && more)
    → IsFalse (is_over journal s) × (journal_opened_at journal s ≡ None) × IsTrue more
unfolding is_member
joining_parts journal s more joining = grind arith

settling_right : (setting : Setting) → SettlingHas (HasControlItemCause setting) (IsRight setting) setting
settling_right setting = record {
  sends = sends_have setting;
  rises = λ journal rises. let next : Item = Item.Current (journal_next_current setting journal) in record {
    may = may_rise setting journal (grind (arith, nat_tests));
    told = λ s there to member. record {
      to = to;
      member = member;
      current = sym (current_more journal next);
      says = sym ((policies_keep journal (next ∷ []) (refl, tt)).touched setting
          (journal_next_current setting journal));
    };
  };
  opens = λ journal s there joins.
      let parts = joining_parts journal s (has_acked journal s (journal_current_mark journal)) joins in
      record {
        to = record { known = refl; not_over = parts.0 };
        opens = inl (record { closed = parts.1; current = refl; acked = parts.2 });
      };
  retires = λ journal rises. let next : Item = Item.Retired (journal_next_retired setting journal) in
      record {
        may = record { rises = grind (arith, nat_tests); least = refl };
        told = λ s there to member.
            record { to = to; member = member; retired = sym (retired_more journal next) };
      };
}

pub settling_have : (setting : Setting) (journal : List Item)
    → Has setting journal (machine_settling setting journal)
settling_have setting = settling_has (HasControlItemCause setting) setting
    (parts_have (HasControlItemCause setting) (IsRight setting) setting (settling_right setting))

-- ---- tables

pub installs_have : (setting : Setting) (s : ℕ) (journal : List Item)
    → IsFalse (is_over journal s) → Has setting journal (machine_installs_to setting s journal)
unfolding machine_installs_to
installs_have setting s journal not_over = sends_have setting journal _
    (each_map (IsRight setting journal) (λ version. journal_install_for setting journal version s)
    (journal_versions_from_current journal) (each_range (λ version. IsRight setting journal
    (journal_install_for setting journal version s)) (journal_current_mark journal)
    (journal_version_count journal + 1 - journal_current_mark journal) (λ version above below. record {
      to = record { known = refl; not_over = not_over };
      version = version;
      which = inr above;
      there = omega (arith, above, below);
      planned = refl;
    })))

all_installs_have : (setting : Setting) (journal : List Item)
    → Has setting journal (machine_installs_to_all setting journal)
unfolding machine_installs_to_all
all_installs_have setting journal = sends_have setting journal _
    (each_map (IsRight setting journal) (journal_install_for setting journal (journal_version_count journal)) _
    (each_filter (λ s. IsRight setting journal (journal_install_for setting journal (journal_version_count journal)
    s)) (λ s. not (is_over journal s)) (λ s is. record {
      to = record { known = refl; not_over = not_true (is_over journal s) is };
      version = journal_version_count journal;
      which = inl refl;
      there = omega arith;
      planned = refl;
    }) (machine_switches_of setting)))
  where
    not_true : (b : Bool) → IsTrue (not b) → IsFalse b
    not_true true is = absurd cc
    not_true false is = refl

pub submitted_have : (setting : Setting) (journal : List Item)
    → Has setting journal (machine_submitted_items setting journal)
submitted_have setting journal = have_in_turn (HasControlItemCause setting) (machine_installs_to_all setting
    ∷ machine_settling setting ∷ []) (all_installs_have setting, (settling_have setting, tt)) journal

-- ---- what a delivery causes, by its receiver: what the items of each receiver have, its items
-- have

pub delivery_has : (Have : List Item → Type 0) (setting : Setting) (before : List Item)
    (number : ℕ) (now : List Item) → Have []
    → ((body : Body) → journal_message_of before number ≡ Some (message_to_controller body)
    → Have (machine_controller_items setting before body now))
    → ((s : ℕ) (body : Body) → journal_body_to_switch before s number ≡ Some body
    → Have (journal_switch_items setting before s body now))
    → Have (machine_delivery_items setting before number now)
unfolding machine_delivery_items
delivery_has Have setting before number now none at_controller at_switch =
    by_message (journal_message_of before number) refl
  where
    by_said : (s : ℕ) (o : Option Body) → journal_body_to_switch before s number ≡ o → Have (elim o [
      | None ↦ []
      | Some body ↦ journal_switch_items setting before s body now
    ])
    by_said s None e = none
    by_said s (Some body) e = at_switch s body e

    by_receiver : (to : Place) (body : Body)
        → journal_message_of before number ≡ Some (record { to = to; body = body })
        → Have (machine_received_items setting before number (record { to = to; body = body }) now)
    by_receiver Place.Controller body e = at_controller body e
    by_receiver (Place.Switch s) body e = by_said s (journal_body_to_switch before s number) refl

    by_message : (o : Option Message) → journal_message_of before number ≡ o → Have (elim o [
      | None ↦ []
      | Some message ↦ machine_received_items setting before number message now
    ])
    by_message None e = none
    by_message (Some message) e = by_receiver message.to message.body e

-- the message may be none that can be delivered
pub deliver_has : (cause : List Item → Item → Type 0) (setting : Setting) (before : List Item)
    (number : ℕ) (here : List Item) → cause here Item.Nothing → cause here (Item.Delivered number)
    → let now = here ++ Item.Delivered number ∷ [] in
    ((body : Body) → journal_message_of before number ≡ Some (message_to_controller body)
    → JournalItemsHaveCauses cause now (machine_controller_items setting before body now))
    → ((s : ℕ) (body : Body) → journal_body_to_switch before s number ≡ Some body
    → JournalItemsHaveCauses cause now (journal_switch_items setting before s body now))
    → JournalItemsHaveCauses cause here (machine_deliver_items setting before number here)
unfolding machine_deliver_items
deliver_has cause setting before number here nothing delivered at_controller at_switch =
    let now : List Item = here ++ Item.Delivered number ∷ [] in
    let first = have_first cause (Item.Delivered number) (machine_delivery_items setting before number)
    here delivered
    (delivery_has (JournalItemsHaveCauses cause now) setting before number now tt at_controller at_switch) in
    grind arith

hello_has : (cause : List Item → Item → Type 0) (setting : Setting) (before settled : List Item)
    (body : Body) → ((s boot : ℕ) → body ≡ Hello s boot → IsTrue (is_new_boot_in_journal before s boot)
    → JournalItemsHaveCauses cause settled (machine_installs_to setting s settled))
    → JournalItemsHaveCauses cause settled (machine_after_hello setting before body settled)
hello_has cause setting before settled (Hello s boot) begun = grind (arith, begun s boot refl)
hello_has cause setting before settled _ begun = tt

-- the controller settles first, and then sends tables to a switch that says hello of a new boot
controller_has : (cause : List Item → Item → Type 0) (setting : Setting) (before now : List Item)
    (body : Body) → JournalItemsHaveCauses cause now (machine_settling setting now)
    → (let settled = now ++ machine_settling setting now in
    (s boot : ℕ) → body ≡ Hello s boot → IsTrue (is_new_boot_in_journal before s boot)
    → JournalItemsHaveCauses cause settled (machine_installs_to setting s settled))
    → JournalItemsHaveCauses cause now (machine_controller_items setting before body now)
unfolding machine_controller_items
controller_has cause setting before now body settles begun =
    let settled : List Item = now ++ machine_settling setting now in
    have_put cause (machine_settling setting now) (machine_blocks_in_turn (machine_after_hello setting before body ∷ [])) now
    settles
    (have_put cause (machine_after_hello setting before body settled) (machine_blocks_in_turn []) settled
    (hello_has cause setting before settled body begun) tt)

-- a hello of a new boot raises the known one, behind the row of its delivery
hello_raises : (before : List Item) (row number s boot : ℕ) (step : Step) (body : Body)
    → journal_message_of before number ≡ Some (message_to_controller body) → body ≡ Hello s boot
    → IsTrue (is_new_boot_in_journal before s boot)
    → IsTrue (journal_raises_known_boot (before ++ Item.Row row step ∷ []) s number)
hello_raises before row number s boot step body sent hello new =
    let still : journal_message_of (before ++ Item.Row row step ∷ []) number
    ≡ Some (message_to_controller (Hello s boot)) = message_more before (Item.Row row step) number
    ∙ sent ∙ ap (λ of. Some (message_to_controller of)) hello in
    rw ((known_more before (Item.Row row step) s), still, journal_body_to_controller, eq-eqb s s refl) new

-- so behind its row a delivery has what settling has, tables to a switch whose known boot is
-- raised, and what a switch writes to which something is said
pub row_delivers : (cause : List Item → Item → Type 0) (setting : Setting) (before : List Item)
    (row number : ℕ) (step : Step) → let here = before ++ Item.Row row step ∷ [] in
    let now = here ++ Item.Delivered number ∷ [] in let settled = now ++ machine_settling setting now in
    cause here Item.Nothing → cause here (Item.Delivered number)
    → JournalItemsHaveCauses cause now (machine_settling setting now)
    → ((s : ℕ) → IsTrue (journal_raises_known_boot here s number)
    → JournalItemsHaveCauses cause settled (machine_installs_to setting s settled))
    → ((s : ℕ) (body : Body) → journal_body_to_switch before s number ≡ Some body
    → JournalItemsHaveCauses cause now (journal_switch_items setting before s body now))
    → JournalItemsHaveCauses cause here (machine_deliver_items setting before number here)
row_delivers cause setting before row number step nothing delivered settles raised at_switch =
    deliver_has cause setting before number _ nothing delivered
    (λ body sent. controller_has cause setting before _ body settles
    (λ s boot hello new. raised s
    (hello_raises before row number s boot step body sent hello new))) at_switch

-- ---- what a delivery causes has its causes

-- ---- what is said to a switch

-- a message of this number was sent to the switch, which is up in the boot that it is for
pub record IsSaid (before : List Item) (s number : ℕ) (body : Body) : Type 0 where
  pub sent : journal_message_of before number ≡ Some (machine_message_to_switch s body)
  pub up : IsTrue (is_up before s)
  pub own : IsTrue (is_journal_body_for_boot (journal_boot_of before s) body)

pub said_parts : (before : List Item) (s number : ℕ) (body : Body)
    → journal_body_to_switch before s number ≡ Some body → IsSaid before s number body
said_parts before s number body said = grind (arith, nat_tests)

-- the body was heard with the last item of the journal
record IsHeard (now : List Item) (s number : ℕ) (body : Body) : Type 0 where
  said : IsSaid now s number body
  earlier : List Body
  heard : heard now s ≡ earlier ++ body ∷ []
  stamps : (version : ℕ) → machine_version_to_stamp_with body ≡ Some version → version ≤ journal_stamp_of now s

-- a row changes nothing of what is said
pub said_row : (before : List Item) (row s number : ℕ) (step : Step)
    → journal_body_to_switch (before ++ Item.Row row step ∷ []) s number ≡ journal_body_to_switch before s number
said_row before row s number step =
    let sent = message_more before (Item.Row row step) number in
    let up = up_more before (Item.Row row step) s in
    let boot = boot_more before (Item.Row row step) s in grind arith

delivered_heard : (before : List Item) (s number : ℕ) (body : Body) → journal_body_to_switch before s number
    ≡ Some body → IsHeard (before ++ Item.Delivered number ∷ []) s number body
delivered_heard before s number body said =
    let parts = said_parts before s number body said in record {
      said = record {
        sent = message_more before (Item.Delivered number) number ∙ parts.sent;
        up = up_more before (Item.Delivered number) s ∙ parts.up;
        own = rw (boot_more before (Item.Delivered number) s) parts.own;
      };
      earlier = heard before s;
      heard = cc (heard_more before (Item.Delivered number) s, said);
      stamps = λ version is. let after : journal_stamp_of (before ++ Item.Delivered number ∷ []) s
          ≡ raised (journal_stamp_of before s) (Some version) = stamp_told before number s
          ∙ ap (raised (journal_stamp_of before s)) (ap (option_and_then machine_version_to_stamp_with) said ∙ is) in
          omega (arith, after);
    }

-- ---- what a switch does

own_boot : (now : List Item) (s boot : ℕ) → IsTrue (boot == journal_boot_of now s) → boot ≡ journal_boot_of now s
own_boot now s boot own = eqb-true boot (journal_boot_of now s) own

opens_rightly : (now : List Item) (s number boot version : ℕ)
    → IsHeard now s number (OpenAt boot version) → ControlOpeningHasCause now s (journal_stamp_of now s)
opens_rightly now s number boot version is = record {
  up = is.said.up;
  number = number;
  version = version;
  sent = cc (is.said.sent, own_boot now s boot is.said.own);
  stamped = is.stamps version refl;
  own = refl;
}

switch_have : (setting : Setting) (before now : List Item) (s number : ℕ) (body : Body)
    → IsHeard now s number body → Has setting now (journal_switch_items setting before s body now)
unfolding journal_switch_items
switch_have setting before now s number (Install boot tables) is =
    sends_have setting now (message_to_controller (Installed s boot tables.version) ∷ []) (
      record {
        present = record { up = is.said.up; own = own_boot now s boot is.said.own };
        heard = installed;
      },
      tt,
    )
  where
    installed : IsTrue (list_any (machine_body_installs_version tables.version) (heard now s))
    installed = ap (list_any (machine_body_installs_version tables.version)) is.heard
        ∙ list_any-append (machine_body_installs_version tables.version) is.earlier (Install boot tables ∷ [])
        ∙ ap (λ b. list_any (machine_body_installs_version tables.version) is.earlier || (b || false))
        (eq-eqb tables.version tables.version refl)
        ∙ or_right (list_any (machine_body_installs_version tables.version) is.earlier) true refl
switch_have setting before now s number (Stamp boot version touched) is =
    sends_have setting now (message_to_controller (Stamped s boot version) ∷ []) (
      record {
        present = record { up = is.said.up; own = own_boot now s boot is.said.own };
        stamps = is.stamps version refl;
      },
      tt,
    )
switch_have setting before now s number (OpenAt boot version) is =
    let opens = opens_rightly now s number boot version is in grind (arith, links_have)
switch_have setting before now s number (Advertise advert) is =
    grind (arith, traffic_has, passed_traffic)
switch_have setting before now s number _ is = tt

-- what is said to a switch is heard with its delivery
pub said_have : (setting : Setting) (before here : List Item) (s number : ℕ) (body : Body)
    → journal_body_to_switch here s number ≡ Some body → let now = here ++ Item.Delivered number ∷ [] in
    Has setting now (journal_switch_items setting before s body now)
said_have setting before here s number body said =
    switch_have setting before _ s number body (delivered_heard here s number body said)

-- ---- what the controller does

-- a switch whose known boot is raised isn't over, nor is it behind settling
raised_ends : (setting : Setting) (here : List Item) (s number : ℕ)
    → IsTrue (journal_raises_known_boot here s number) → let now = here ++ Item.Delivered number ∷ [] in
    IsFalse (is_over (now ++ machine_settling setting now) s)
raised_ends setting here s number raises =
    let now : List Item = here ++ Item.Delivered number ∷ [] in
    (grows now (machine_settling setting now) (settling_settles setting now)).over s
    ∙ over_more here (Item.Delivered number) s
    ∙ ap (λ b. if b then false else is_over here s) raises

pub deliver_have : (setting : Setting) (before : List Item) (row number : ℕ) (step : Step)
    → let here = before ++ Item.Row row step ∷ [] in
    Has setting here (machine_deliver_items setting before number here)
deliver_have setting before row number step = row_delivers (HasControlItemCause setting) setting before row
    number step tt tt (settling_have setting _)
    (λ s raises. installs_have setting s _ (raised_ends setting _ s number raises)) (λ s body said.
    said_have setting before _ s number body (said_row before row s number step ∙ said))

-- ---- piece causes

-- a policy that isn't refused is there and has a plan, and neither limit is met
may_submit : (setting : Setting) (file : ℕ) (journal : List Item) → machine_update_code setting journal file
    ≡ None → ControlSubmissionHasCause setting journal file (journal_version_count journal + 1)
may_submit setting file journal allowed =
    let next = allowed_next setting journal file allowed in record {
      next = refl;
      rows = next.rows;
      policy = next.policy;
      planned = next.planned;
      live = λ met. grind (arith, nat_tests);
      few = λ met. grind (arith, nat_tests);
    }

update_have : (setting : Setting) (file : ℕ) (journal : List Item)
    → Has setting journal (machine_update_items setting file journal)
unfolding machine_update_items
update_have setting file journal = grind (arith, submitted_have, may_submit)

-- a switch that began a boot is up, and says hello of it
says_hello : (setting : Setting) (s boot : ℕ) (journal : List Item)
    → let booted = journal ++ Item.Booted s boot ∷ [] in
    Has setting booted (machine_send_items booted (machine_hello_of booted s ∷ []))
says_hello setting s boot journal =
    let own : (s == s) ≡ true = eq-eqb s s refl in
    let booted : List Item = journal ++ Item.Booted s boot ∷ [] in
    let up : is_up booted s ≡ true = rw (up_more journal (Item.Booted s boot) s, own) refl in
    sends_have setting booted (machine_hello_of booted s ∷ []) (record { up = up; own = refl }, tt)

restart_have : (setting : Setting) (s : ℕ) (journal : List Item)
    → Has setting journal (machine_restart_items s journal)
unfolding machine_restart_items
restart_have setting s journal = grind (arith, says_hello)

confirm_have : (setting : Setting) (s : ℕ) (journal : List Item)
    → Has setting journal (machine_confirm_items setting s journal)
unfolding machine_confirm_items
confirm_have setting s journal = grind (arith, settling_have)

step_have : (setting : Setting) (before : List Item) (row : ℕ) (step : Step)
    → let here = before ++ Item.Row row step ∷ [] in
    Has setting here (machine_step_items setting before step here)
step_have setting before row (Packet s header) = packet_has setting (HasControlItemCause setting)
    (traffic_right setting) (journal_next_packet before) s header _ tt
step_have setting before row (Deliver message) =
    deliver_have setting before row message (Deliver message)
step_have setting before row (Update file) = update_have setting file _
step_have setting before row (Crash s) = crash_has setting (HasControlItemCause setting)
    (traffic_right setting) before s _ (λ up. up_more before (Item.Row row (Crash s)) s ∙ up)
step_have setting before row (Restart s) = restart_have setting s _
step_have setting before row (Confirm s) = confirm_have setting s _
step_have setting before row (Resend s) = resend_have setting s _
step_have setting before row step = traffic_has setting _ _ (step_traffic setting before step _ tt)

pub pieces_have : (setting : Setting) → PiecesHave (HasControlItemCause setting) setting
pieces_have setting journal row step =
    piece_has (HasControlItemCause setting) setting journal row step tt (step_have setting journal _ _)

-- so a fact that holds where items have their causes always holds
pub always : (Holds : Setting → List Item → Type 0) → FromCauses Holds → ControlLawHoldsAlways Holds
always Holds caused = record {
  caused = caused;
  behind = behind_items Holds HasControlItemCause pieces_have caused;
}
