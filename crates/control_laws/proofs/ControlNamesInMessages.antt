-- What messages name is there.
use Rattle.std.proofs.Common.{[], ◌&&◌, ◌++◌, ◌<◌, ◌==◌, ◌∙◌, ◌∷◌, ◌≡◌, ◌≤◌, Bool, List, None, Option, Some, arith, eqb-true, false, if◌then◌else◌, inl, inr, length, option_and_then, option_to_list, refl, subst, sym, true, ℕ, rules}
use Rattle.base.proofs.Exports.{All-from_recursion, AllByRecursion, IfSome_then, each_append, each_option, option_map_or, option_or}
use Rattle.ctrl_msg.specs.Exports.{body_version, message_to_controller}
use Rattle.update_machine.specs.Exports.{Advertise, Body, CacheRule, Collect, JournalItemsHaveCauses, Hello, Install, Installed, Item, Message, OpenAt, Place, Setting, Stamp, Stamped, journal_body_to_controller, journal_boot_of, journal_controller_heard, machine_first_open, machine_item_gives_ingress, heard, machine_hello_boot, journal_ingress_of, is_up, journal_known_boot, journal_message_of, machine_open_sent, machine_message_to_switch, journal_version_count}
use Rattle.net_file.specs.Exports.{IsNet}
use Rattle.update_machine.proofs.Exports.{last_given_append, open_net, start_laws}
use Rattle.control_laws.specs.Exports.{ControlBodiesNameThere, HasControlItemCause, ControlLawHoldsReached, IsControlMessageAddressed, IsRightControlMessage, IsRightControlOpening, ControlMessageNamesThere}
use Rattle.control_laws.proofs.ControlFactsGrown.{Both, by_number, fact_on, have_both, hello_sent, known_more, opened_in, opened_is, opened_more, opens_by, raised, said_sent, told_more}
use Rattle.control_laws.proofs.ControlPieceCauses.{pieces_have}
use Rattle.control_laws.proofs.ControlMarksAtEnds.{reached}
use Rattle.control_laws.proofs.ControlTrafficItems.{IsIngress}
use Rattle.control_laws.proofs.ControlCurrentVersions.{StampsAreCurrent, count_rises, current_kept, first_opened, heard_on, right_current, right_planned}
use Rattle.control_laws.proofs.ControlSaidToController.{each_weaker}
use Rattle.control_laws.proofs.ControlPlannedTables.{IsPlanned, all_at_first, all_kept, own_tables}
use Rattle.control_laws.proofs.ControlNamesInPieces.{IsKnownSwitch, NamesRightly, SaysThere, pieces_name}

-- ---- what is kept

-- the version is there
abbrev IsThere : List Item → ℕ → Type 0
IsThere journal version = (1 ≤ version) × (version ≤ journal_version_count journal)

-- what the controller was told by names that are there
abbrev pub IsTold : Setting → List Item → Body → Type 0
IsTold setting journal body = ControlMessageNamesThere setting journal (message_to_controller body)

pub record AreNamed (setting : Setting) (journal : List Item) : Type 0 where
  pub planned : IsPlanned setting journal
  pub current : StampsAreCurrent journal
  pub opened : (s boot version : ℕ) → opened_in journal s boot ≡ Some version → 1 ≤ version
  pub ingress : (i s : ℕ) → journal_ingress_of journal i ≡ Some s → s < length setting.net.switches
  pub known : (s : ℕ) → 1 < journal_known_boot journal s → s < length setting.net.switches
  pub sent : (n : ℕ) (message : Message) → journal_message_of journal n ≡ Some message
      → ControlMessageNamesThere setting journal message
  pub heard : (s : ℕ) → AllByRecursion
      (λ body. ControlMessageNamesThere setting journal (machine_message_to_switch s body)) (heard journal s)
  pub told : AllByRecursion (IsTold setting journal) (journal_controller_heard journal)

-- each item has its causes, and names what is there
abbrev Named : Setting → List Item → Item → Type 0
Named setting = Both (HasControlItemCause setting) (NamesRightly setting)

-- ---- switches

known_there : (setting : Setting) (before : List Item) (s : ℕ) → AreNamed setting before
    → IsKnownSwitch setting before s → s < length setting.net.switches
known_there setting before s are known = search rules

ingress_there : (setting : Setting) (before : List Item) (s : ℕ) → 1 ≤ length setting.net.switches
    → AreNamed setting before → IsIngress before s → s < length setting.net.switches
ingress_there setting before s some are is = search rules

-- ---- versions

opening_above : (setting : Setting) (before : List Item) (s boot version : ℕ)
    → AreNamed setting before → IsRightControlOpening before s boot version → 1 ≤ version
opening_above setting before s boot version are right = search (rules, opened_is)

names_there : (setting : Setting) (before : List Item) (to : Place) (body : Body)
    → 1 ≤ length setting.net.switches → AreNamed setting before
    → IsRightControlMessage setting before to body → SaysThere setting before to body
    → ControlMessageNamesThere setting before (record { to = to; body = body })
names_there setting before (Place.Switch s) (Install boot tables) some are right says =
    let own = own_tables setting before s tables are.planned.so_far.versions
    (right_planned setting before s boot tables are.planned.so_far.marks right) in record {
      addressed = (known_there setting before s are says.1, refl);
      version = (own.first, own.last);
    }
names_there setting before (Place.Switch s) (OpenAt boot version) some are right says = record {
  addressed = (known_there setting before s are says.1, refl);
  version = (
    opening_above setting before s boot version are right,
    omega (arith, right_current before s boot version are.current right, are.current.marks.there),
  );
}
names_there setting before (Place.Switch s) (Stamp boot version touched) some are right says =
    let current = right.current in
    let marks = are.current.marks in record {
      addressed = (known_there setting before s are says.1, refl);
      version = (omega (arith, current, marks.first), omega (arith, current, marks.there));
    }
names_there setting before (Place.Switch s) (Collect boot version) some are right says =
    let retired = right.retired in record {
      addressed = (known_there setting before s are says.1, refl);
      version = (says.0, omega (arith, retired, are.current.retired, are.current.marks.there));
    }
names_there setting before (Place.Switch s) (CacheRule version word rule action) some are right
    says = record {
      addressed = (ingress_there setting before s some are says.1, refl);
      version = (are.planned.so_far.versions version).0 says.0;
    }
names_there setting before (Place.Switch s) (Advertise advert) some are right says =
    record { addressed = (says, refl); version = tt }
names_there setting before Place.Controller (Hello s boot) some are right says =
    record { addressed = says; version = tt }
names_there setting before Place.Controller (Installed s boot version) some are right says =
    let names = are.sent says.answers.number _ says.answers.sent in
    record { addressed = names.addressed.0; version = subst (IsThere before) says.own names.version }
names_there setting before Place.Controller (Stamped s boot version) some are right says =
    let names = are.sent says.answers.number _ says.answers.sent in
    record { addressed = names.addressed.0; version = names.version }
names_there setting before (Place.Switch s) body some are right says = absurd right
names_there setting before Place.Controller body some are right says = absurd says

-- ---- items

names_on : (setting : Setting) (before : List Item) (next : Item) (message : Message)
    → ControlMessageNamesThere setting before message → ControlMessageNamesThere setting (before ++ next ∷ []) message
names_on setting before next message names = record {
  addressed = names.addressed;
  version = IfSome_then (body_version message.body) names.version
      (λ version there. (there.0, omega (arith, there.1, count_rises before next)));
}

sent_named : (setting : Setting) (before : List Item) (next : Item) (n : ℕ) (message : Message)
    → 1 ≤ length setting.net.switches → Named setting before next → AreNamed setting before
    → journal_message_of (before ++ next ∷ []) n ≡ Some message
    → ControlMessageNamesThere setting (before ++ next ∷ []) message
sent_named setting before next n message some cause are is = elim (by_number _ next n message is) [
  | inl new ↦ let own = subst (Named setting before) new cause in
      names_on setting before next message
      (names_there setting before message.to message.body some are own.first own.second)
  | inr old ↦ names_on setting before next message (are.sent n message old)
]

opened_named : (setting : Setting) (before : List Item) (next : Item) (s boot version : ℕ)
    → HasControlItemCause setting before next → AreNamed setting before
    → opened_in (before ++ next ∷ []) s boot ≡ Some version → 1 ≤ version
opened_named setting before next s boot version cause are opened =
    by_opened (opened_in before s boot) refl (sym (opened_more before next s boot) ∙ opened)
  where
    by_opened : (o : Option ℕ) → opened_in before s boot ≡ o
        → option_or o (machine_first_open (machine_open_sent s boot next)) ≡ Some version → 1 ≤ version
    by_opened (Some w) e opens = are.opened s boot version (e ∙ opens)
    by_opened None e opens = opening_above setting before s boot version are
        (subst (HasControlItemCause setting before) (opens_by next s boot version opens).1 cause)

ingress_more : (before : List Item) (next : Item) (i : ℕ) → journal_ingress_of (before ++ next ∷ []) i
    ≡ option_or (machine_item_gives_ingress i next) (journal_ingress_of before i)
unfolding journal_ingress_of
ingress_more before next i = last_given_append (machine_item_gives_ingress i) before (next ∷ [])

ingress_named : (setting : Setting) (before : List Item) (next : Item) (i s : ℕ)
    → NamesRightly setting before next → AreNamed setting before
    → journal_ingress_of (before ++ next ∷ []) i ≡ Some s → s < length setting.net.switches
ingress_named setting before next i s there are is = search (rules, ingress_more)

known_named : (setting : Setting) (before : List Item) (next : Item) (s : ℕ)
    → AreNamed setting before → 1 < journal_known_boot (before ++ next ∷ []) s
    → s < length setting.net.switches
known_named setting before (Item.Delivered number) s are above = by_hello _ refl
    (subst (λ boot. 1 < boot) (known_more before (Item.Delivered number) s) above)
  where
    by_hello : (o : Option ℕ) → option_and_then (machine_hello_boot s) (journal_body_to_controller before number)
        ≡ o → 1 < raised (journal_known_boot before s) o → s < length setting.net.switches
    by_hello None e above = are.known s above
    by_hello (Some boot) e above = (are.sent number (message_to_controller (Hello s boot))
        (hello_sent before s number boot e)).addressed
known_named setting before next s are above = are.known s (rw (known_more before next s) at above)

told_on : (setting : Setting) (before : List Item) (next : Item) (bodies : List Body)
    → AllByRecursion (IsTold setting before) bodies
    → AllByRecursion (IsTold setting (before ++ next ∷ [])) bodies
told_on setting before next bodies told = each_weaker (IsTold setting before) _
    (λ body names. names_on setting before next (message_to_controller body) names) bodies told

told_named : (setting : Setting) (before : List Item) (next : Item) → AreNamed setting before
    → AllByRecursion (IsTold setting (before ++ next ∷ [])) (journal_controller_heard (before ++ next ∷ []))
told_named setting before (Item.Delivered number) are = let next : Item = Item.Delivered number in
    subst (AllByRecursion (IsTold setting (before ++ next ∷ []))) (sym (told_more before next))
    (told_on setting before next _ (each_append (IsTold setting before) (journal_controller_heard before)
    (option_to_list (journal_body_to_controller before number)) are.told
    (each_option (IsTold setting before) (journal_body_to_controller before number)
    (λ body said. are.sent number (message_to_controller body) (said_sent before number body said)))))
told_named setting before next are = rw (told_more before next) (told_on _ before next _ are.told)

-- ---- together

named_kept : (setting : Setting) → 1 ≤ length setting.net.switches → (before : List Item)
    (next : Item) → Named setting before next → AreNamed setting before
    → AreNamed setting (before ++ next ∷ [])
named_kept setting some before next cause are = record {
  planned = all_kept setting before next cause.first are.planned;
  current = current_kept setting before next cause.first are.current;
  opened = λ s boot version is. opened_named setting before next s boot version cause.first are is;
  ingress = λ i s is. ingress_named setting before next i s cause.second are is;
  known = λ s above. known_named setting before next s are above;
  sent = λ n message is. sent_named setting before next n message some cause are is;
  heard = λ s. heard_on (λ body. ControlMessageNamesThere setting before (machine_message_to_switch s body)) _ before next s
      (λ body names. names_on setting before next (machine_message_to_switch s body) names)
      (λ number body sent. are.sent number (machine_message_to_switch s body) sent) (are.heard s);
  told = told_named setting before next are;
}

none_told : journal_controller_heard [] ≡ []
unfolding journal_controller_heard
none_told = refl

named_at_first : (setting : Setting) → AreNamed setting []
named_at_first setting = search (rules, all_at_first, first_opened, start_laws, none_told)

named : (setting : Setting) (journal : List Item) → JournalItemsHaveCauses (Named setting) [] journal
    → IsNet setting.net → ControlBodiesNameThere setting journal
named setting journal have net =
    let are = fact_on _ _ (named_kept _ net.some_switch) [] _ have (named_at_first _) in record {
      sent = are.sent;
      heard = λ s. All-from_recursion (λ body. ControlMessageNamesThere setting journal (machine_message_to_switch s body))
          (heard journal s) (are.heard s);
      told = All-from_recursion (IsTold setting journal) (journal_controller_heard journal) are.told;
    }

pub bodies_named : ControlLawHoldsReached (λ setting journal. IsNet setting.net
    → ControlBodiesNameThere setting journal)
bodies_named = reached (λ setting journal. IsNet setting.net → ControlBodiesNameThere setting journal)
    Named named
    (λ setting journal row step own. have_both (HasControlItemCause setting) (NamesRightly setting) journal
    _ (pieces_have setting journal row step) (pieces_name setting journal row step own))

-- ---- what messages name, computed on a network of two switches with one version

to_second : ControlMessageNamesThere open_net [] (machine_message_to_switch 1 (Stamp 1 1 []))
unfolding journal_version_count
to_second = record { addressed = (omega arith, refl); version = (omega arith, omega arith) }

of_second : ControlMessageNamesThere open_net [] (message_to_controller (Hello 1 7))
of_second = record { addressed = omega arith; version = tt }

-- the network has no third switch
not_to_third : ControlMessageNamesThere open_net [] (machine_message_to_switch 2 (Stamp 1 1 [])) → ⊥
not_to_third names = absurd (omega (arith, names.addressed.0))

not_of_third : ControlMessageNamesThere open_net [] (message_to_controller (Hello 2 1)) → ⊥
not_of_third names = absurd (omega (arith, names.addressed))

-- no switch tells the controller to open, and none is told who speaks
not_told_to_open : ControlMessageNamesThere open_net [] (message_to_controller (OpenAt 1 1)) → ⊥
not_told_to_open names = absurd names.addressed

not_a_hello_to_switch : ControlMessageNamesThere open_net [] (machine_message_to_switch 1 (Hello 0 1)) → ⊥
not_a_hello_to_switch names = cc names.addressed.1

-- versions are counted from 1, and the second isn't there
not_version_0 : ControlMessageNamesThere open_net [] (machine_message_to_switch 1 (Stamp 1 0 [])) → ⊥
not_version_0 names = absurd (omega (arith, names.version.0))

not_version_2 : ControlMessageNamesThere open_net [] (message_to_controller (Installed 1 1 2)) → ⊥
unfolding journal_version_count
not_version_2 names = absurd (omega (arith, names.version.1))

-- ---- addresses alone, whatever the version

addressed_to_second : IsControlMessageAddressed open_net (Place.Switch 1) (Stamp 1 9 [])
addressed_to_second = (omega arith, refl)

not_addressed_to_third : IsControlMessageAddressed open_net (Place.Switch 2) (Stamp 1 9 []) → ⊥
not_addressed_to_third addressed = absurd (omega (arith, addressed.0))

-- ---- whole journals: a stamp was sent to the second switch, which heard it

abbrev stamped : List Item
stamped = Item.Sent 1 (machine_message_to_switch 1 (Stamp 1 1 [])) ∷ Item.Delivered 1 ∷ []

its_names : ControlMessageNamesThere open_net stamped (machine_message_to_switch 1 (Stamp 1 1 []))
unfolding journal_version_count
its_names = record { addressed = (omega arith, refl); version = (omega arith, omega arith) }

name_there : ControlBodiesNameThere open_net stamped
unfolding journal_message_of heard is_up journal_boot_of journal_controller_heard
name_there = record {
  sent = λ n message is. by_number (1 == n) message is;
  heard = λ s. All-from_recursion (Names s) (heard stamped s) (by_switch s (1 == s) refl);
  told = λ k body inside. absurd (omega (arith, inside));
} where
  Names : ℕ → Body → Type 0
  Names s body = ControlMessageNamesThere open_net stamped (machine_message_to_switch s body)

  by_number : (b : Bool) (message : Message)
      → (if b then Some (machine_message_to_switch 1 (Stamp 1 1 [])) else None) ≡ Some message
      → ControlMessageNamesThere open_net stamped message
  by_number true message is = let own : machine_message_to_switch 1 (Stamp 1 1 []) ≡ message = cc in
      subst (ControlMessageNamesThere open_net stamped) own its_names
  by_number false message is = absurd cc

  by_switch : (s : ℕ) (b : Bool) → (1 == s) ≡ b → AllByRecursion (Names s) (option_map_or
      (λ body. [] ++ body ∷ []) (if b && true && true then Some (Stamp 1 1 []) else None) [])
  by_switch s true e = (subst (λ t. Names t (Stamp 1 1 [])) (eqb-true 1 s e) its_names, tt)
  by_switch s false e = tt

-- a message to a third switch names none, as it is sent
not_sent_to_third : ControlBodiesNameThere open_net (Item.Sent 1 (machine_message_to_switch 2 (Stamp 1 1 [])) ∷ []) → ⊥
unfolding journal_message_of
not_sent_to_third name = not_to_fresh_third (name.sent 1 (machine_message_to_switch 2 (Stamp 1 1 [])) refl) where
  not_to_fresh_third : ControlMessageNamesThere open_net
      (Item.Sent 1 (machine_message_to_switch 2 (Stamp 1 1 [])) ∷ []) (machine_message_to_switch 2 (Stamp 1 1 [])) → ⊥
  not_to_fresh_third names = absurd (omega (arith, names.addressed.0))

-- nor is it as a switch hears of a version that isn't there, or the controller of a third switch
not_heard_of_version_2 :
    ControlBodiesNameThere open_net (Item.Sent 1 (machine_message_to_switch 1 (Stamp 1 2 [])) ∷ Item.Delivered 1 ∷ []) → ⊥
unfolding journal_message_of heard is_up journal_boot_of journal_version_count
not_heard_of_version_2 name =
    let heard = name.heard 1 0 (Stamp 1 1 []) (omega arith) in absurd (omega (arith, heard.version.1))

not_told_of_third : ControlBodiesNameThere open_net
    (Item.Sent 1 (message_to_controller (Hello 2 1)) ∷ Item.Delivered 1 ∷ []) → ⊥
unfolding journal_message_of journal_controller_heard
not_told_of_third name = search rules
