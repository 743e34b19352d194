-- All that items with their causes keep of versions and marks, together.
use Rattle.std.proofs.Common.{[], ◌++◌, ◌-◌, ◌<◌, ◌∷◌, ◌≡◌, ◌≤◌, IsFalse, IsTrue, List, None, Some, ap, arith, eq-eqb, inl, inr, is_some, length, map, refl, subst, unwrap_or, ℕ, rules}
use Rattle.base.proofs.Exports.{⊤, AllByRecursion, cases_lt, each_unmap, list_any, nat_tests}
use Rattle.update_machine.specs.Exports.{Body, Collect, JournalItemsHaveCauses, Item, Message, OpenAt, Place, Setting, Stamp, acked_stamp, message_collects_version, journal_current_mark, heard, holds_version, is_member, is_up, machine_least_number, members, journal_message_of, journal_next_retired, open_version, journal_opened_at, journal_retired_mark, journal_stamp_of, machine_message_to_switch}
use Rattle.update_machine.proofs.Exports.{start_laws}
use Rattle.control_laws.specs.Exports.{HasControlItemCause, ControlSwitchHeardTables, IsControlAckedFirst, IsFirstControlOpening, IsControlStampAfterAck, IsRightControlMessage, IsRightControlOpening, IsRightControlStamp, ControlLetsStampAfterAck, ControlMarksAreBounded, ControlMembersAcknowledged, ControlRetirementHasCause, ControlServingHoldVersions, ControlServingIsKnown}
use Rattle.control_laws.proofs.ControlFactsGrown.{AreKept, Behind, FromCauses, NeverFalls, by_number, fact_on, from_causes, retired_more, with_fact}
use Rattle.control_laws.proofs.ControlCurrentVersions.{StampsAreCurrent, acked_current, current_at_first, current_kept, heard_on, right_current}
use Rattle.control_laws.proofs.ControlSaidToController.{acked_stamp_opened, acked_stamp_rises, each_in_range, least_below}
use Rattle.control_laws.proofs.ControlMemberFacts.{IsAcked, LeavesMember, MemberFact, acked_at_first, acked_fact, member_on, member_was, open_was}
use Rattle.control_laws.proofs.ControlSwitchOpenings.{caused_known, member_of, serving_known}
use Rattle.control_laws.proofs.ControlStampingSwitches.{IsTold, StampsOpened, acks_held, opened_stamps_at_first, opened_stamps_on, serving_stamps, told_at_first, told_kept}
use Rattle.ternary.specs.Exports.{WordValue}

-- ---- retired versions are below the acknowledged stamp of each member

-- ---- members

-- a member of the network is known to stamp with a version that isn't retired
pub record IsAbove (setting : Setting) (journal : List Item) (s : ℕ) : Type 0 where
  pub above : s < length setting.net.switches → IsTrue (is_member journal s)
      → journal_retired_mark journal < acked_stamp journal s

same_above : (setting : Setting) (before : List Item) (next : Item) (s : ℕ)
    → LeavesMember before next s → journal_retired_mark (before ++ next ∷ []) ≡ journal_retired_mark before
    → IsAbove setting before s → IsAbove setting (before ++ next ∷ []) s
same_above setting before next s leaves retired is =
    search (rules, member_was, acked_stamp_rises, open_was)

new_above : (setting : Setting) (before : List Item) (n s version : ℕ) (message : Message)
    → StampsAreCurrent before → IsFirstControlOpening before s version
    → journal_opened_at (before ++ Item.Sent n message ∷ []) s ≡ Some version
    → IsAbove setting (before ++ Item.Sent n message ∷ []) s
unfolding is_member journal_retired_mark acked_stamp
new_above setting before n s version message are first now =
    search (rules, retired_more, acked_stamp_opened)

-- the least acknowledged stamp of the members is at most that of each
least_member : (setting : Setting) (journal : List Item) (s : ℕ) → s < length setting.net.switches
    → IsTrue (is_member journal s) → journal_next_retired setting journal ≤ acked_stamp journal s - 1
unfolding journal_next_retired
least_member setting journal s there member =
    let stamps : List ℕ = map (acked_stamp journal) (members setting journal) in
    let lowest : ℕ = unwrap_or (machine_least_number stamps) (journal_current_mark journal) in
    let below : lowest ≤ acked_stamp journal s = each_in_range _ (is_member journal) 0 _ s
    (each_unmap (λ x. lowest ≤ x) (acked_stamp journal) (members setting journal)
    (least_below stamps (journal_current_mark journal))) (omega arith) (omega (arith, there)) member in
    omega arith

retires_above : (setting : Setting) (before : List Item) (version s : ℕ)
    → ControlRetirementHasCause setting before version → LeavesMember before (Item.Retired version) s
    → IsAbove setting (before ++ Item.Retired version ∷ []) s
unfolding is_member journal_retired_mark acked_stamp
retires_above setting before version s right leaves =
    search (rules, retired_more, least_member, member_was, acked_stamp_rises, open_was)

pub above_fact : (setting : Setting) → MemberFact setting (IsAbove setting)
above_fact setting = record {
  same = λ before next s leaves current retired is. same_above _ before next s leaves retired is;
  none = λ journal s none. record { above = λ there member. absurd (none member) };
  new = λ before n s version message are first now. new_above _ before n s _ message are first now;
  raised = λ before version s are may leaves is. same_above _ _ _ s leaves (retired_more _ _) is;
  retires = λ before version s are right leaves is. retires_above _ before version s right leaves;
}

pub above_at_first : (setting : Setting) (s : ℕ) → IsAbove setting [] s
above_at_first setting s = search (rules, start_laws)

-- ---- what members are told to drop

-- no message tells a switch to drop a version that isn't retired
abbrev pub CollectsRetired : List Item → Type 0
CollectsRetired journal = (s boot version n : ℕ)
    → journal_message_of journal n ≡ Some (machine_message_to_switch s (Collect boot version))
    → version ≤ journal_retired_mark journal

pub retired_rises : NeverFalls journal_retired_mark
retired_rises setting before next cause = search (rules, retired_more)

pub collects_on : (setting : Setting) (before : List Item) (next : Item) → HasControlItemCause setting
    before next → CollectsRetired before → CollectsRetired (before ++ next ∷ [])
collects_on setting before next cause are s boot version n is = elim (by_number _ next n _ is) [
  | inl new ↦ let right = subst (HasControlItemCause setting before) new cause in
      omega (arith, right.retired, retired_rises setting before next cause)
  | inr old ↦ omega (arith, are s boot version n old, retired_rises setting before next cause)
]

pub collects_at_first : CollectsRetired []
collects_at_first s boot version n is =
    let none : None ≡ Some (machine_message_to_switch s (Collect boot version)) =
    rw (start_laws.message n).message at is in absurd cc

-- ---- mark laws

pub record AreMarked (setting : Setting) (journal : List Item) : Type 0 where
  pub told : IsTold journal
  pub current : StampsAreCurrent journal
  pub acked : (s : ℕ) → IsAcked setting journal s
  pub above : (s : ℕ) → IsAbove setting journal s
  pub stamps : (s : ℕ) → StampsOpened journal s
  pub collects : CollectsRetired journal

marked_kept : (setting : Setting) → AreKept (HasControlItemCause setting) (AreMarked setting)
marked_kept setting before next cause are = record {
  told = told_kept setting before next cause are.told;
  current = current_kept setting before next cause are.current;
  acked = λ s. member_on _ _ (acked_fact setting) before next s cause are.current (are.acked s);
  above = λ s. member_on _ _ (above_fact setting) before next s cause are.current (are.above s);
  stamps = λ s. opened_stamps_on setting before next s cause are.told.known (are.stamps s);
  collects = collects_on setting before next cause are.collects;
}

marked_at_first : (setting : Setting) → AreMarked setting []
marked_at_first setting = record {
  told = told_at_first;
  current = current_at_first;
  acked = acked_at_first setting;
  above = above_at_first setting;
  stamps = opened_stamps_at_first;
  collects = collects_at_first;
}

caused_marked : FromCauses AreMarked
caused_marked = from_causes AreMarked marked_kept marked_at_first

-- ---- members

pub acknowledged : FromCauses ControlMembersAcknowledged
acknowledged setting journal have = let are = caused_marked setting journal have in record {
  acked = λ s version there member above below.
      (are.acked s).acked there member version above below;
  stamps = λ s serving. serving_stamps _ s are.told.known are.told.stamps (are.stamps s) serving;
}

-- ---- marks

pub bounded : FromCauses ControlMarksAreBounded
bounded setting journal have = let are = caused_marked setting journal have in record {
  first = are.current.marks.first;
  there = are.current.marks.there;
  retired = are.current.retired;
  stamped = λ s there member. (are.above s).above there member;
  collected = λ s boot version n there sent member.
      omega (arith, are.collects s boot version n sent, (are.above s).above there member);
  stamps = are.current.stamps;
  known = λ s. acked_current journal s are.current;
}

-- ---- what lets switches stamp

opening_let : (setting : Setting) (before : List Item) (s boot version : ℕ) → AreMarked setting
    before → IsRightControlOpening before s boot version → IsControlStampAfterAck setting before s boot version
opening_let setting before s boot version are right = record {
  known = right.to.known;
  acked = λ there. elim right.opens [
    | inl first ↦ first.acked
    | inr same ↦ let opening : open_version before s ≡ version = ap (λ o. unwrap_or o 0) same in
        (are.acked s).acked there
        (member_of before s right.to.not_over (ap (λ o. is_some o) same)) version
        (omega (arith, opening)) (right_current before s boot version are.current right)
  ];
  current = right_current before s boot version are.current right;
}

stamp_let : (setting : Setting) (before : List Item) (s boot version : ℕ) (touched : List WordValue)
    → AreMarked setting before → IsRightControlStamp setting before s boot version touched
    → IsControlStampAfterAck setting before s boot version
stamp_let setting before s boot version touched are right = record {
  known = right.to.known;
  acked = λ there. (are.acked s).acked there right.member version
      (omega (arith, right.current, acked_stamp_opened, acked_current)) (omega arith);
  current = omega arith;
}

message_let : (setting : Setting) (before : List Item) (to : Place) (body : Body)
    → AreMarked setting before → IsRightControlMessage setting before to body
    → ControlLetsStampAfterAck setting before to body
message_let setting before (Place.Switch s) (OpenAt boot version) are right =
    opening_let setting before s boot version are right
message_let setting before (Place.Switch s) (Stamp boot version touched) are right =
    stamp_let setting before s boot version touched are right
message_let setting before to body are right = tt

item_let : (setting : Setting) (before : List Item) (next : Item) → Behind (HasControlItemCause setting)
    (AreMarked setting) before next → IsControlAckedFirst setting before next
item_let setting before (Item.Sent n message) behind =
    message_let setting before message.to message.body behind.known behind.caused
item_let setting before _ behind = tt

items_let : (setting : Setting) (before items : List Item)
    → JournalItemsHaveCauses (Behind (HasControlItemCause setting) (AreMarked setting)) before items
    → JournalItemsHaveCauses (IsControlAckedFirst setting) before items
items_let setting before [] have = tt
items_let setting before (next ∷ items) have =
    (item_let setting before next have.0, items_let setting (before ++ next ∷ []) items have.1)

pub acked_first : FromCauses (λ setting. JournalItemsHaveCauses (IsControlAckedFirst setting) [])
acked_first setting journal have = items_let setting [] journal (with_fact (HasControlItemCause setting)
    (AreMarked setting) (marked_kept setting) [] journal have (marked_at_first setting))

-- ---- switches that serve hold what they stamp with: they acknowledged it, and never heard a
-- message to drop it.

-- ---- what is heard of dropping

-- the body asks to drop no version above this one
abbrev DropsUpTo : ℕ → Body → Type 0
DropsUpTo mark (Collect boot version) = version ≤ mark
DropsUpTo mark _ = ⊤

-- no switch heard to drop a version that isn't retired
abbrev DropsRetired : List Item → Type 0
DropsRetired journal = (s : ℕ) → AllByRecursion (DropsUpTo (journal_retired_mark journal)) (heard journal s)

drops_more : (mark after : ℕ) → mark ≤ after → (body : Body) → DropsUpTo mark body
    → DropsUpTo after body
drops_more mark after rises (Collect boot version) drops = omega (arith, rises, drops)
drops_more mark after rises _ drops = tt

sent_drops : (before : List Item) (s number : ℕ) → CollectsRetired before → (body : Body)
    → journal_message_of before number ≡ Some (machine_message_to_switch s body) → DropsUpTo (journal_retired_mark before) body
sent_drops before s number are (Collect boot version) sent = are s boot version number sent
sent_drops before s number are _ sent = tt

drops_kept : (setting : Setting)
    → AreKept (Behind (HasControlItemCause setting) CollectsRetired) DropsRetired
drops_kept setting before next behind drops s = heard_on (DropsUpTo (journal_retired_mark before)) _ before
    next s (drops_more (journal_retired_mark before) _ (retired_rises setting before next behind.caused))
    (λ number body sent. sent_drops before s number behind.known body sent) (drops s)

drops_at_first : DropsRetired []
drops_at_first s = rw (start_laws.heard s) tt

caused_drops : FromCauses (λ setting. DropsRetired)
caused_drops setting journal have = fact_on _ DropsRetired (drops_kept setting) [] journal
    (with_fact _ _ (collects_on setting) [] journal have collects_at_first) drops_at_first

-- ---- what is held

none_dropped : (mark version : ℕ) → mark < version → (bodies : List Body)
    → AllByRecursion (DropsUpTo mark) bodies → IsFalse (list_any (message_collects_version version) bodies)
none_dropped mark version above [] all = refl
none_dropped mark version above (body ∷ bodies) all =
    search (rules, nat_tests, none_dropped mark version above bodies all.1)

-- tables that it has and didn't drop
tables_held : (journal : List Item) (s version : ℕ) → IsTrue (is_up journal s)
    → ControlSwitchHeardTables journal s version → IsFalse (list_any (message_collects_version version) (heard journal s))
    → IsTrue (holds_version journal s version)
unfolding holds_version
tables_held journal s version up has kept = search (rules, eq-eqb)

-- ---- switches that serve

pub serving_hold : FromCauses ControlServingHoldVersions
serving_hold setting journal have s there serving = record {
  stamp = holds (journal_stamp_of journal s) (omega arith) current;
  held = λ version below. elim (cases_lt version (journal_stamp_of journal s)) [
    | inl less ↦ inr less
    | inr above ↦ inl (holds version above below)
  ];
  retired = retired;
  current = current;
} where
  known : ControlServingIsKnown journal
  known = serving_known journal (caused_known setting journal have)

  members : ControlMembersAcknowledged setting journal
  members = acknowledged setting journal have

  marks : ControlMarksAreBounded setting journal
  marks = bounded setting journal have

  current : journal_stamp_of journal s ≤ journal_current_mark journal
  current = marks.stamps s

  stamps : acked_stamp journal s ≤ journal_stamp_of journal s
  stamps = members.stamps s serving

  retired : journal_retired_mark journal < journal_stamp_of journal s
  retired = omega (arith, stamps, marks.stamped s there (known.member s serving))

  tables : (version : ℕ) → journal_stamp_of journal s ≤ version → version ≤ journal_current_mark journal
      → ControlSwitchHeardTables journal s version
  tables version above below = (acks_held setting journal have s).acked version
      (known.up s serving) (known.known s serving) (members.acked s version there
      (known.member s serving) (omega (arith, acked_stamp_opened journal s, stamps, above)) below)

  holds : (version : ℕ) → journal_stamp_of journal s ≤ version → version ≤ journal_current_mark journal
      → IsTrue (holds_version journal s version)
  holds version above below = tables_held journal s _ (known.up s serving) (tables _ above below)
      (none_dropped _ _ (omega (arith, retired, above)) _ (caused_drops setting journal have s))
