-- A fact of members: kept if nothing changes for the member, and true of those that become members.
use Rattle.std.proofs.Common.{[], ◌++◌, ◌<◌, ◌==◌, ◌||◌, ◌∙◌, ◌∷◌, ◌≡◌, ◌≤◌, Bool, IsTrue, List, None, Option, Some, ap, append_assoc, arith, false, if◌then◌else◌, inl, inr, is_some, length, nat_eq, nat_lt, option_and_then, refl, subst, sym, true, unwrap_or, ℕ}
use Rattle.base.proofs.Exports.{cases_lt, each_of_all, list_any, list_any-append, nat_tests, option_map_or, option_or}
use Rattle.update_machine.specs.Exports.{Item, MachineCurrentMayRise, Message, Setting, journal_body_to_controller, journal_controller_heard, journal_current_mark, machine_first_open, has_acked, machine_hello_boot, machine_installed_version, is_member, is_over, journal_known_boot, members, machine_open_sent, open_version, journal_opened_at, journal_raises_known_boot, journal_retired_mark}
use Rattle.control_laws.specs.Exports.{HasControlItemCause, IsFirstControlOpening, ControlRetirementHasCause}
use Rattle.control_laws.proofs.ControlFactsGrown.{current_more, known_more, opened_at_more, opened_in, opened_is, opened_more, opens_by, over_more, raised, retired_more}
use Rattle.control_laws.proofs.ControlSwitchOpenings.{member_of, member_parts}
use Rattle.control_laws.proofs.ControlCurrentVersions.{StampsAreCurrent}
use Rattle.update_machine.proofs.Exports.{start_laws}
use Rattle.control_laws.proofs.ControlSaidToController.{each_in_range, tells, told_by, told_by_more}

-- ---- what a member keeps

-- an item that opens no switch leaves the opening of the known boot
pub opened_same : (before : List Item) (next : Item) (s : ℕ) → journal_known_boot (before ++ next ∷ []) s
    ≡ journal_known_boot before s → machine_open_sent s (journal_known_boot before s) next ≡ []
    → journal_opened_at (before ++ next ∷ []) s ≡ journal_opened_at before s
opened_same before next s known none =
    cc (opened_at_more before next s known, none, or_none (journal_opened_at before s))
  where
    or_none : (o : Option ℕ) → option_or o None ≡ o
    or_none None = refl
    or_none (Some x) = refl

-- a delivery that raises the known boot makes it a greater one
pub raised_above : (before : List Item) (number s : ℕ) → journal_raises_known_boot before s number ≡ true
    → journal_known_boot before s < journal_known_boot (before ++ Item.Delivered number ∷ []) s
raised_above before number s raises = rw (known_more before (Item.Delivered number) s)
    (rises (option_and_then (machine_hello_boot s) (journal_body_to_controller before number)) raises)
  where
    rises : (hello : Option ℕ)
        → option_map_or (λ boot. nat_lt (journal_known_boot before s) boot) hello false ≡ true
        → journal_known_boot before s < raised (journal_known_boot before s) hello
    rises None e = absurd cc
    rises (Some boot) e = grind (arith, nat_tests)

-- and leaves no member: no message opened it in that boot
pub raised_none : (before : List Item) (number s : ℕ) → StampsAreCurrent before
    → journal_raises_known_boot before s number ≡ true
    → journal_opened_at (before ++ Item.Delivered number ∷ []) s ≡ None
raised_none before number s are raises = opened_is after s
    ∙ opened_more before (Item.Delivered number) s (journal_known_boot after s)
    ∙ ap (λ o. option_or o None) (by_opened (opened_in before s (journal_known_boot after s)) refl)
  where
    after : List Item
    after = before ++ Item.Delivered number ∷ []

    more : journal_known_boot before s < journal_known_boot after s
    more = raised_above before number s raises

    by_opened : (o : Option ℕ) → opened_in before s (journal_known_boot after s) ≡ o
        → opened_in before s (journal_known_boot after s) ≡ None
    by_opened None e = e
    by_opened (Some version) e = let past = (are.opened s (journal_known_boot after s) version e).1 in
        absurd (omega (arith, past, more))

-- one that doesn't leaves it
pub unraised_same : (before : List Item) (number s : ℕ) → journal_raises_known_boot before s number ≡ false
    → journal_known_boot (before ++ Item.Delivered number ∷ []) s ≡ journal_known_boot before s
unraised_same before number s none = known_more before (Item.Delivered number) s
    ∙ same (option_and_then (machine_hello_boot s) (journal_body_to_controller before number)) none
  where
    same : (hello : Option ℕ)
        → option_map_or (λ boot. nat_lt (journal_known_boot before s) boot) hello false ≡ false
        → raised (journal_known_boot before s) hello ≡ journal_known_boot before s
    same None e = refl
    same (Some boot) e = grind (arith, nat_tests)

-- ---- members

-- one more item leaves all as it was of which membership speaks
pub record LeavesMember (before : List Item) (next : Item) (s : ℕ) : Type 0 where
  pub known : journal_known_boot (before ++ next ∷ []) s ≡ journal_known_boot before s
  pub over : is_over (before ++ next ∷ []) s ≡ is_over before s
  pub opened : journal_opened_at (before ++ next ∷ []) s ≡ journal_opened_at before s

-- so a member was one
pub member_was : (before : List Item) (next : Item) (s : ℕ) → LeavesMember before next s
    → IsTrue (is_member (before ++ next ∷ []) s) → IsTrue (is_member before s)
member_was before next s leaves member = let parts = member_parts (before ++ next ∷ []) s member in
    member_of before s (sym leaves.over ∙ parts.0)
    (sym (ap (λ o. is_some o) leaves.opened) ∙ parts.1)

-- and was opened at the same version
pub open_was : (before : List Item) (next : Item) (s : ℕ) → LeavesMember before next s
    → open_version (before ++ next ∷ []) s ≡ open_version before s
open_was before next s leaves = ap (λ o. unwrap_or o 0) leaves.opened

-- a fact of switches that are members, by the marks
pub record MemberFact (setting : Setting) (Holds : List Item → ℕ → Type 0) : Type 0 where
  -- it is kept where the switch and the marks stay as they were
  pub same : (before : List Item) (next : Item) (s : ℕ) → LeavesMember before next s
      → journal_current_mark (before ++ next ∷ []) ≡ journal_current_mark before
      → journal_retired_mark (before ++ next ∷ []) ≡ journal_retired_mark before
      → Holds before s → Holds (before ++ next ∷ []) s
  -- it asks nothing of others
  pub none : (journal : List Item) (s : ℕ) → (IsTrue (is_member journal s) → ⊥) → Holds journal s
  -- a switch that is opened now has it
  pub new : (before : List Item) (n s version : ℕ) (message : Message)
      → StampsAreCurrent before → IsFirstControlOpening before s version
      → journal_opened_at (before ++ Item.Sent n message ∷ []) s ≡ Some version
      → Holds (before ++ Item.Sent n message ∷ []) s
  -- it is kept as the marks rise
  pub raised : (before : List Item) (version s : ℕ) → StampsAreCurrent before
      → MachineCurrentMayRise setting before version → LeavesMember before (Item.Current version) s
      → Holds before s → Holds (before ++ Item.Current version ∷ []) s
  pub retires : (before : List Item) (version s : ℕ) → StampsAreCurrent before
      → ControlRetirementHasCause setting before version → LeavesMember before (Item.Retired version) s
      → Holds before s → Holds (before ++ Item.Retired version ∷ []) s

-- one that wasn't opened is no member
closed_no_member : (journal : List Item) (s : ℕ) → journal_opened_at journal s ≡ None
    → IsTrue (is_member journal s) → ⊥
closed_no_member journal s closed member = let parts = member_parts journal s member in
    absurd (cc (sym (ap (λ o. is_some o) closed) ∙ parts.1))

-- ---- items

-- an item that is no delivery, no message and no end of one that is over
pub quiet_leaves : (before : List Item) (next : Item) (s : ℕ) → journal_known_boot (before ++ next ∷ []) s
    ≡ journal_known_boot before s → is_over (before ++ next ∷ []) s ≡ is_over before s
    → machine_open_sent s (journal_known_boot before s) next ≡ [] → LeavesMember before next s
quiet_leaves before next s known over none = record {
  known = known;
  over = over;
  opened = opened_same before next s known none;
}

-- a message that is sent leaves the member as it was, or there is none, or it is opened now
pub sent_cases : (setting : Setting) (before : List Item) (n s : ℕ) (message : Message)
    → HasControlItemCause setting before (Item.Sent n message) → (Goal : Type 0)
    → (LeavesMember before (Item.Sent n message) s → Goal)
    → ((IsTrue (is_member (before ++ Item.Sent n message ∷ []) s) → ⊥) → Goal)
    → ((version : ℕ) → IsFirstControlOpening before s version
    → journal_opened_at (before ++ Item.Sent n message ∷ []) s ≡ Some version → Goal) → Goal
sent_cases setting before n s message cause Goal leaves none new =
    by_opened (journal_opened_at before s) refl
  where
    next : Item
    next = Item.Sent n message

    boot : ℕ
    boot = journal_known_boot before s

    known : journal_known_boot (before ++ next ∷ []) s ≡ boot
    known = known_more before next s

    after : journal_opened_at (before ++ next ∷ []) s
        ≡ option_or (journal_opened_at before s) (machine_first_open (machine_open_sent s boot next))
    after = opened_at_more before next s known

    by_new : (o : Option ℕ) → journal_opened_at before s ≡ None
        → machine_first_open (machine_open_sent s boot next) ≡ o → journal_opened_at (before ++ next ∷ []) s ≡ o → Goal
    by_new None closed opens now = none (closed_no_member (before ++ next ∷ []) s now)
    by_new (Some w) closed opens now =
        elim (subst (HasControlItemCause setting before) (opens_by next s boot w opens).1 cause).opens [
          | inl first ↦ new w first now
          | inr same ↦ let clash : None ≡ Some w = sym closed ∙ same in absurd cc
        ]

    by_opened : (o : Option ℕ) → journal_opened_at before s ≡ o → Goal
    by_opened (Some w) e = leaves (record {
      known = known;
      over = over_more before next s;
      opened = after ∙ ap (λ o. option_or o (machine_first_open (machine_open_sent s boot next))) e ∙ sym e;
    })
    by_opened None e = by_new (machine_first_open (machine_open_sent s boot next)) e refl
        (after ∙ ap (λ o. option_or o (machine_first_open (machine_open_sent s boot next))) e)

-- a delivery leaves it as it was, or raises the known boot
pub delivered_cases : (before : List Item) (number s : ℕ) → StampsAreCurrent before
    → (Goal : Type 0) → (LeavesMember before (Item.Delivered number) s → Goal)
    → ((IsTrue (is_member (before ++ Item.Delivered number ∷ []) s) → ⊥) → Goal) → Goal
delivered_cases before number s are Goal leaves none = by_raise (journal_raises_known_boot before s number) refl
  where
    next : Item
    next = Item.Delivered number

    by_raise : (b : Bool) → journal_raises_known_boot before s number ≡ b → Goal
    by_raise true e = none
        (closed_no_member (before ++ next ∷ []) s (raised_none before number s are e))
    by_raise false e = leaves (quiet_leaves before next s (unraised_same before number s e)
        (over_more before next s ∙ ap (λ b. if b then false else is_over before s) e) refl)

-- a switch that is over now is no member
pub over_cases : (before : List Item) (t s : ℕ) (Goal : Type 0)
    → (LeavesMember before (Item.OverNow t) s → Goal)
    → ((IsTrue (is_member (before ++ Item.OverNow t ∷ []) s) → ⊥) → Goal) → Goal
over_cases before t s Goal leaves none = by_test (t == s) refl where
  next : Item
  next = Item.OverNow t

  by_test : (b : Bool) → (t == s) ≡ b → Goal
  by_test true e = none (λ member. let over : is_over (before ++ next ∷ []) s ≡ true =
      over_more before next s ∙ ap (λ b. if b then true else is_over before s) e in
      let none : true ≡ false = sym over ∙ (member_parts (before ++ next ∷ []) s member).0 in
      absurd cc)
  by_test false e = leaves (quiet_leaves before next s (known_more before next s)
      (over_more before next s ∙ ap (λ b. if b then true else is_over before s) e) refl)

pub member_on : (setting : Setting) (Holds : List Item → ℕ → Type 0) → MemberFact setting Holds
    → (before : List Item) (next : Item) (s : ℕ) → HasControlItemCause setting before next
    → StampsAreCurrent before → Holds before s → Holds (before ++ next ∷ []) s
member_on setting Holds fact before (Item.Sent n message) s cause are is =
    let next : Item = Item.Sent n message in
    sent_cases setting before n s message cause (Holds (before ++ next ∷ []) s)
    (λ leaves. fact.same before next s leaves (current_more before next) (retired_more before next)
    is)
    (fact.none (before ++ next ∷ []) s)
    (λ version first now. fact.new before n s version message are first now)
member_on setting Holds fact before (Item.Delivered number) s cause are is =
    let next : Item = Item.Delivered number in
    delivered_cases before number s are (Holds (before ++ next ∷ []) s)
    (λ leaves. fact.same before next s leaves (current_more before next) (retired_more before next)
    is)
    (fact.none (before ++ next ∷ []) s)
member_on setting Holds fact before (Item.OverNow t) s cause are is =
    let next : Item = Item.OverNow t in
    over_cases before t s (Holds (before ++ next ∷ []) s)
    (λ leaves. fact.same before next s leaves (current_more before next) (retired_more before next)
    is)
    (fact.none (before ++ next ∷ []) s)
member_on setting Holds fact before (Item.Current version) s cause are is =
    fact.raised before version s are cause
    (quiet_leaves before (Item.Current version) s (known_more before (Item.Current version) s)
    (over_more before (Item.Current version) s) refl) is
member_on setting Holds fact before (Item.Retired version) s cause are is =
    fact.retires before version s are cause
    (quiet_leaves before (Item.Retired version) s (known_more before (Item.Retired version) s)
    (over_more before (Item.Retired version) s) refl) is
member_on setting Holds fact before next s cause are is = fact.same before next s
    (quiet_leaves before next s (known_more before next s) (over_more before next s) refl)
    (current_more before next) (retired_more before next) is

-- ---- a member acknowledged each version from the one at which it was opened to the current one

-- what is acknowledged in a known boot that stays: what was, and what the item tells
pub acked_more : (before : List Item) (next : Item) (s v : ℕ) → journal_known_boot (before ++ next ∷ []) s
    ≡ journal_known_boot before s → has_acked (before ++ next ∷ []) s v ≡ (has_acked before s v
    || list_any (nat_eq v) (tells (machine_installed_version s (journal_known_boot before s)) before next))
unfolding has_acked
acked_more before next s v known =
    rw (known, told_by_more (machine_installed_version s (journal_known_boot before s)) before next)
    (ap (list_any (nat_eq v)) (sym (append_assoc first told new))
    ∙ list_any-append (nat_eq v) (first ++ told) new)
  where
    first : List ℕ
    first = if journal_known_boot before s == 1 then 1 ∷ [] else []

    told : List ℕ
    told = told_by (machine_installed_version s (journal_known_boot before s)) before

    new : List ℕ
    new = tells (machine_installed_version s (journal_known_boot before s)) before next

acked_grows : (before : List Item) (next : Item) (s v : ℕ)
    → journal_known_boot (before ++ next ∷ []) s ≡ journal_known_boot before s
    → IsTrue (has_acked before s v) → IsTrue (has_acked (before ++ next ∷ []) s v)
acked_grows before next s v known acked =
    let was : has_acked before s v ≡ true = acked in rw (acked_more before next s v known, was) refl

-- a member of the network acknowledged what is current
pub record IsAcked (setting : Setting) (journal : List Item) (s : ℕ) : Type 0 where
  pub acked : s < length setting.net.switches → IsTrue (is_member journal s) → (version : ℕ)
      → open_version journal s ≤ version → version ≤ journal_current_mark journal
      → IsTrue (has_acked journal s version)

same_acked : (setting : Setting) (before : List Item) (next : Item) (s : ℕ)
    → LeavesMember before next s → journal_current_mark (before ++ next ∷ []) ≡ journal_current_mark before
    → IsAcked setting before s → IsAcked setting (before ++ next ∷ []) s
same_acked setting before next s leaves current is = record {
  acked = λ there member version above below. acked_grows before next s version leaves.known
      (is.acked there (member_was before next s leaves member) version
      (omega (arith, open_was before next s leaves, above)) (omega (arith, current, below)));
}

-- one that is opened now acknowledged the version at which it is
new_acked : (setting : Setting) (before : List Item) (n s version : ℕ) (message : Message)
    → IsFirstControlOpening before s version
    → journal_opened_at (before ++ Item.Sent n message ∷ []) s ≡ Some version
    → IsAcked setting (before ++ Item.Sent n message ∷ []) s
new_acked setting before n s version message first now =
    let next : Item = Item.Sent n message in
    let current : version ≡ journal_current_mark before = first.current in record {
      acked = λ there member v above below. let own : version ≡ v = omega
          (arith, ap (λ o. unwrap_or o 0) now, current_more before next, current, above, below) in
          acked_grows before next s v (known_more before next s)
          (subst (λ w. IsTrue (has_acked before s w)) own first.acked);
    }

raised_acked : (setting : Setting) (before : List Item) (mark s : ℕ)
    → MachineCurrentMayRise setting before mark → LeavesMember before (Item.Current mark) s
    → IsAcked setting before s → IsAcked setting (before ++ Item.Current mark ∷ []) s
raised_acked setting before mark s may leaves is = let next : Item = Item.Current mark in record {
  acked = λ there member version above below.
      let was : IsTrue (is_member before s) = member_was before next s leaves member in
      acked_grows before next s version leaves.known
      (elim (cases_lt (journal_current_mark before) version) [
        | inl new ↦ each_in_range (λ t. IsTrue (has_acked before t version)) (is_member before) 0
            (length setting.net.switches) s (each_of_all (λ t. has_acked before t version)
            (members setting before) (may.acknowledged version new (omega (arith, current_more))))
            (omega arith) (omega arith) was
        | inr old ↦ is.acked there was version (omega (arith, open_was)) old
      ]);
}

pub acked_fact : (setting : Setting) → MemberFact setting (IsAcked setting)
acked_fact setting = record {
  same = λ before next s leaves current retired is.
      same_acked setting before next s leaves current is;
  none = λ journal s none.
      record { acked = λ there member version above below. absurd (none member) };
  new = λ before n s version message are first now.
      new_acked setting before n s version message first now;
  raised = λ before version s are may leaves is.
      raised_acked setting before version s may leaves is;
  retires = λ before version s are right leaves is. same_acked setting before (Item.Retired version)
      s leaves (current_more before (Item.Retired version)) is;
}

pub first_open : (s : ℕ) → open_version [] s ≡ 1
unfolding journal_opened_at journal_known_boot journal_controller_heard
first_open s = refl

pub acked_at_first : (setting : Setting) (s : ℕ) → IsAcked setting [] s
acked_at_first setting s = record {
  acked = λ there member version above below.
      let one : version ≡ 1 = omega (arith, first_open s, start_laws.current, above, below) in
      start_laws.acked s version ∙ ap (λ v. v == 1) one;
}
