-- What the controller hears changes what is known of the switch that speaks, and of no other one.
use Rattle.std.proofs.Common.{[], if◌then◌else◌, ◌&&◌, ◌++◌, ◌-◌, ◌<◌, ◌==◌, ◌^◌, ◌||◌, ◌∙◌, ◌∷◌, ◌≡◌, ◌≢◌, ◌≤◌, Bool, IsFalse, IsTrue, List, None, Option, Some, ap, arith, bit_or, eq-eqb, false, fold, length, max, nat_eq, nat_lt, ne_eqb, not, option_and_then, option_to_list, refl, subst, sym, true, unwrap_or, ℕ}
use Rattle.base.proofs.Exports.{and-true, bit_at-zero, fold-append, list_any, nat_tests, option_map_or, option_or, or-false}
use Rattle.packet_laws.proofs.Exports.{other_number}
use Rattle.failover.proofs.FailoverKnownLinks.{turned_number}
use Rattle.update_machine.specs.Exports.{Body, JournalItemsHaveCauses, Hello, Installed, Item, Setting, Stamped, acked_stamp, journal_body_to_controller, machine_hello_boot, machine_installed_version, journal_known_boot, open_version, journal_opened_at, machine_stamped_version_in}
use Rattle.update_machine.specs.Marks as machine
use Rattle.control_laws.specs.Exports.{HasControlItemCause}
use Rattle.control_laws.proofs.Exports.{StampsAreCurrent, acked_more, count_more, current_at_first, current_kept, current_more, fact_on, known_first, known_more, member_same, opened_in, opened_is, opened_more, opened_same, over_more, raised, retired_more, tells, told_by, told_by_more, told_more}
use Rattle.version_update.specs.Exports.{MarksValue, mark_record_after_installed, mark_record_after_over, update_after_stamped, version_marks_with_switch_changed, has_acked, update_hello_recorded, is_member, is_over, update_record_of, update_takes_hello, mark_takes_installed, update_takes_stamped}
use Rattle.version_update.specs.declared.record.Phase.TheVariants.{Joining}
use Rattle.version_update.specs.declared.record.SwitchRecord.{SwitchRecord}
use Rattle.version_update.proofs.VersionAcknowledgements.{installed_acked}
use Rattle.controller.specs.Exports.{ControllerReplyNamesExist, controller_marks_after}
use Rattle.refinement.specs.Exports.{AreMarksRefined, IsKnownRefined}
use Rattle.refinement.proofs.RefinedKeptController.{StaysKnown, known_on, quiet_stays, stay_on, switch_on}
use Rattle.refinement.proofs.RefinedControllerPlans.{acks_past}

abbrev delivered : ℕ → Item
delivered n = Item.Delivered n

-- ---- facts behind a message that is told

-- the boot that is known
boot_told : (here : List Item) (n t : ℕ) (body : Body) → journal_body_to_controller here n ≡ Some body
    → journal_known_boot (here ++ delivered n ∷ []) t ≡ raised (journal_known_boot here t) (machine_hello_boot t body)
boot_told here n t body said = cc (known_more here (delivered n) t, said)

over_told : (here : List Item) (n t : ℕ) (body : Body) → journal_body_to_controller here n ≡ Some body
    → machine.is_over (here ++ delivered n ∷ []) t
    ≡ (if option_map_or (λ boot. nat_lt (journal_known_boot here t) boot) (machine_hello_boot t body) false
    then false else machine.is_over here t)
over_told here n t body said = cc (over_more here (delivered n) t, said)

tells_said : {X : Type 0} (reads : Body → Option X) (here : List Item) (n : ℕ) (body : Body)
    → journal_body_to_controller here n ≡ Some body
    → tells reads here (delivered n) ≡ option_to_list (reads body)
tells_said reads here n body said = ap (λ o. option_to_list (option_and_then reads o)) said

-- in a boot that stays, what is acknowledged
acked_told : (here : List Item) (n t v : ℕ) (body : Body) → journal_body_to_controller here n ≡ Some body
    → journal_known_boot (here ++ delivered n ∷ []) t ≡ journal_known_boot here t
    → machine.has_acked (here ++ delivered n ∷ []) t v ≡ (machine.has_acked here t v
    || list_any (nat_eq v) (option_to_list (machine_installed_version t (journal_known_boot here t) body)))
acked_told here n t v body said known = acked_more here (delivered n) t v known
    ∙ ap (λ xs. machine.has_acked here t v || list_any (nat_eq v) xs)
    (tells_said (machine_installed_version t (journal_known_boot here t)) here n body said)

-- and the acknowledged stamp
stamp_told : (here : List Item) (n t : ℕ) (body : Body) → journal_body_to_controller here n ≡ Some body
    → journal_known_boot (here ++ delivered n ∷ []) t ≡ journal_known_boot here t
    → acked_stamp (here ++ delivered n ∷ []) t
    ≡ fold max (acked_stamp here t) (option_to_list (machine_stamped_version_in t (journal_known_boot here t) body))
unfolding acked_stamp
stamp_told here n t body said known =
    let opened = opened_same here (delivered n) t known refl in
    let told : List ℕ = told_by (machine_stamped_version_in t (journal_known_boot here t)) here in
    rw (known, opened, told_by_more (machine_stamped_version_in t (journal_known_boot here t)) here (delivered n))
    (fold-append max (open_version here t) told (tells (machine_stamped_version_in t (journal_known_boot here t)) here
    (delivered n)) ∙ ap (fold max (fold max (open_version here t) told))
    (tells_said (machine_stamped_version_in t (journal_known_boot here t)) here n body said))

-- what a body that is no hello leaves as it was
record AckStays (here after : List Item) (s : ℕ) : Type 0 where
  boot : journal_known_boot after s ≡ journal_known_boot here s
  over : machine.is_over after s ≡ machine.is_over here s
  opened : journal_opened_at after s ≡ journal_opened_at here s
  member : machine.is_member after s ≡ machine.is_member here s

ack_stays : (here : List Item) (n s : ℕ) (body : Body) → journal_body_to_controller here n ≡ Some body
    → machine_hello_boot s body ≡ None → AckStays here (here ++ delivered n ∷ []) s
ack_stays here n s body said no_hello =
    let boot = boot_told here n s body said ∙ ap (raised (journal_known_boot here s)) no_hello in
    let over = over_told here n s body said
    ∙ ap (λ o. if option_map_or (λ boot. nat_lt (journal_known_boot here s) boot) o false
    then false else machine.is_over here s) no_hello in
    let opened = opened_same here (delivered n) s boot refl in record {
      boot = boot;
      over = over;
      opened = opened;
      member = member_same here (here ++ delivered n ∷ []) s over opened;
    }

-- ---- a body that tells nothing of a switch

untold : (here : List Item) (n t : ℕ) (body : Body) → journal_body_to_controller here n ≡ Some body
    → machine_hello_boot t body ≡ None → machine_installed_version t (journal_known_boot here t) body ≡ None
    → machine_stamped_version_in t (journal_known_boot here t) body ≡ None → StaysKnown here (here ++ delivered n ∷ []) t
untold here n t body said hello installed stamped =
    let stays : AckStays here (here ++ delivered n ∷ []) t = ack_stays here n t body said hello in
    record {
      boot = stays.boot;
      over = stays.over;
      opened = stays.opened;
      acked = λ v. acked_told here n t v body said stays.boot
          ∙ ap (λ o. machine.has_acked here t v || list_any (nat_eq v) (option_to_list o)) installed
          ∙ or-false (machine.has_acked here t v);
      stamp = cc (stamp_told here n t body said stays.boot, stamped);
    }

-- ---- hello

-- a hello that isn't of a greater boot
late_hello : (here : List Item) (n s boot : ℕ) → journal_body_to_controller here n ≡ Some (Hello s boot)
    → nat_lt (journal_known_boot here s) boot ≡ false → StaysKnown here (here ++ delivered n ∷ []) s
late_hello here n s boot said late =
    let body : Body = Hello s boot in
    let own = ap (λ b. if b then Some boot else None) (eq-eqb s s refl) in
    let same : max (journal_known_boot here s) boot ≡ journal_known_boot here s = grind (arith, nat_tests) in
    let known = boot_told here n s body said ∙ ap (raised (journal_known_boot here s)) own ∙ same in
    record {
      boot = known;
      over = cc (over_told here n s body said, own, late);
      opened = opened_same here (delivered n) s known refl;
      acked = λ v. acked_told here n s v body said known ∙ or-false (machine.has_acked here s v);
      stamp = stamp_told here n s body said known;
    }

-- a switch with a new boot isn't opened in it
closed_now : (here : List Item) (n s boot : ℕ) → StampsAreCurrent here
    → journal_known_boot (here ++ delivered n ∷ []) s ≡ boot → journal_known_boot here s < boot
    → journal_opened_at (here ++ delivered n ∷ []) s ≡ None
closed_now here n s boot are now later = opened_is (here ++ delivered n ∷ []) s
    ∙ ap (opened_in (here ++ delivered n ∷ []) s) now ∙ opened_more here (delivered n) s boot
    ∙ ap (λ o. option_or o None) (by_opened (opened_in here s boot) refl)
  where
    by_opened : (o : Option ℕ) → opened_in here s boot ≡ o → opened_in here s boot ≡ None
    by_opened None e = e
    by_opened (Some version) e =
        let past = (are.opened s boot version e).1 in absurd (omega (arith, past, later))

-- and acknowledged nothing in it
none_acked : (here : List Item) (n s boot v : ℕ) (body : Body) → journal_body_to_controller here n
    ≡ Some body → machine_installed_version s boot body ≡ None → journal_known_boot (here ++ delivered n ∷ []) s ≡ boot
    → journal_known_boot here s < boot → told_by (machine_installed_version s boot) here ≡ []
    → machine.has_acked (here ++ delivered n ∷ []) s v ≡ false
unfolding machine.has_acked
none_acked here n s boot v body said silent now later none =
    let later_boot = ne_eqb boot 1 (λ e. omega (arith, e, later, known_first here s)) in
    rw (now, told_by_more (machine_installed_version s boot) here (delivered n), none, later_boot)
    (ap (list_any (nat_eq v)) (tells_said (machine_installed_version s boot) here n body said)
    ∙ ap (λ o. list_any (nat_eq v) (option_to_list o)) silent)

new_hello : (setting : Setting) (here : List Item) (n s boot : ℕ)
    → JournalItemsHaveCauses (HasControlItemCause setting) [] here → journal_body_to_controller here n ≡ Some (Hello s boot)
    → nat_lt (journal_known_boot here s) boot ≡ true → IsKnownRefined (here ++ delivered n ∷ []) s
    (record { boot = boot; phase = Joining; acked = 0; open_version = 0; acked_stamp = 0 })
unfolding machine.is_member
new_hello setting here n s boot have said new =
    let body : Body = Hello s boot in
    let after : List Item = here ++ delivered n ∷ [] in
    let later : journal_known_boot here s < boot = grind (arith, nat_tests) in
    let own = ap (λ b. if b then Some boot else None) (eq-eqb s s refl) in
    let now : journal_known_boot after s ≡ boot =
    boot_told here n s body said ∙ ap (raised (journal_known_boot here s)) own ∙ (omega (arith, later)) in
    let over : machine.is_over after s ≡ false = over_told here n s body said
    ∙ ap (λ o. if option_map_or (λ b. nat_lt (journal_known_boot here s) b) o false then false
    else machine.is_over here s) own ∙ ap (λ b. if b then false else machine.is_over here s) new in
    let closed : journal_opened_at after s ≡ None = closed_now here n s boot (fact_on (HasControlItemCause setting)
    StampsAreCurrent (current_kept setting) [] here have current_at_first) now later in
    let member : machine.is_member after s ≡ false = rw (over, closed) refl in record {
      boot = sym now;
      over = sym over;
      member = sym member;
      acked = λ not_over v low. ap (λ d. d == 1) (bit_at-zero (v - 1)) ∙ sym (none_acked here n s
          boot v body said refl now later ((acks_past setting here have).told s boot later));
      opened = λ is. let no : false ≡ true = sym member ∙ is in absurd cc;
      stamp = λ is. let no : false ≡ true = sym member ∙ is in absurd cc;
    }

hello_known : (setting : Setting) (here : List Item) (n s boot : ℕ) (known : SwitchRecord)
    → JournalItemsHaveCauses (HasControlItemCause setting) [] here → journal_body_to_controller here n ≡ Some (Hello s boot)
    → IsKnownRefined here s known → IsKnownRefined (here ++ delivered n ∷ []) s (update_hello_recorded boot known)
hello_known setting here n s boot known have said is = by_taken (update_takes_hello boot known) refl where
  same : update_takes_hello boot known ≡ nat_lt (journal_known_boot here s) boot
  same = ap (λ b. nat_lt b boot) is.boot

  by_taken : (b : Bool) → update_takes_hello boot known ≡ b → IsKnownRefined (here ++ delivered n ∷ []) s
      (if b then record {
        boot = boot;
        phase = Joining;
        acked = 0;
        open_version = 0;
        acked_stamp = 0;
      } else known)
  by_taken true e = new_hello setting here n s boot have said (sym same ∙ e)
  by_taken false e = known_on here (here ++ delivered n ∷ []) s known
      (late_hello here n s boot said (sym same ∙ e)) is

-- ---- acknowledgements

-- of its known boot, and as the test says
own_boot : (here : List Item) (s boot : ℕ) (known : SwitchRecord) (test : Bool)
    → known.boot ≡ journal_known_boot here s → test ≡ true
    → (known.boot == boot && test) ≡ (s == s && boot == journal_known_boot here s)
own_boot here s boot known test same passes =
    ap (λ t. known.boot == boot && t) passes ∙ and-true (known.boot == boot)
    ∙ ap (λ b. b == boot) same ∙ turned_number (journal_known_boot here s) boot
    ∙ ap (λ b. b && boot == journal_known_boot here s) (sym (eq-eqb s s refl))

-- so of the record only what it acknowledged may be another
known_as : (here after : List Item) (s : ℕ) (known next : SwitchRecord) → AckStays here after s
    → IsKnownRefined here s known → next.boot ≡ known.boot → next.phase ≡ known.phase
    → next.open_version ≡ known.open_version → (IsFalse (machine.is_over after s)
    → (w : ℕ) → 1 ≤ w → has_acked next w ≡ machine.has_acked after s w)
    → (IsTrue (machine.is_member after s) → next.acked_stamp ≡ acked_stamp after s)
    → IsKnownRefined after s next
known_as here after s known next stays is boot phase version acked stamp = record {
  boot = boot ∙ is.boot ∙ sym stays.boot;
  over = ap is_over phase ∙ is.over ∙ sym stays.over;
  member = ap is_member phase ∙ is.member ∙ sym stays.member;
  acked = acked;
  opened = λ now. version ∙ is.opened (sym stays.member ∙ now)
      ∙ sym (ap (λ opened. unwrap_or opened 0) stays.opened);
  stamp = stamp;
}

-- the journal behind the message that is heard
abbrev behind_delivery : List Item → ℕ → List Item
behind_delivery here n = here ++ delivered n ∷ []

installed_known : (here : List Item) (n s boot v : ℕ) (known : SwitchRecord) → 1 ≤ v
    → journal_body_to_controller here n ≡ Some (Installed s boot v) → IsKnownRefined here s known
    → IsKnownRefined (here ++ delivered n ∷ []) s (mark_record_after_installed boot v known)
installed_known here n s boot v known there said is = by_taken (mark_takes_installed boot known) refl
  where
    stays : AckStays here (behind_delivery here n) s
    stays = ack_stays here n s (Installed s boot v) said refl

    by_own : (b : Bool) (w : ℕ) → (b && w == v)
        ≡ list_any (nat_eq w) (option_to_list (if b then Some v else None))
    by_own true w = sym (or-false (w == v))
    by_own false w = refl

    acked : (b : Bool) → mark_takes_installed boot known ≡ b → IsFalse (machine.is_over (behind_delivery here n) s)
        → (w : ℕ) → 1 ≤ w
        → has_acked (if b then record known { acked = bit_or known.acked (2 ^ (v - 1)) }
        else known) w ≡ machine.has_acked (behind_delivery here n) s w
    acked b e none w low = let here_none : machine.is_over here s ≡ false = sym stays.over ∙ none in
        subst (λ c. has_acked (if c then record known { acked = bit_or known.acked (2 ^ (v - 1)) }
        else known) w ≡ machine.has_acked (behind_delivery here n) s w) e
        (installed_acked boot v w known there low
        ∙ ap (λ c. c || (mark_takes_installed boot known && w == v)) (is.acked here_none w low)
        ∙ ap (λ c. machine.has_acked here s w || (c && w == v)) (own_boot here s boot known
        (not (is_over known.phase)) is.boot (ap not (is.over ∙ here_none)))
        ∙ ap (λ c. machine.has_acked here s w || c) (by_own (s == s && boot == journal_known_boot here s) w)
        ∙ sym (acked_told here n s w (Installed s boot v) said stays.boot))

    stamp : IsTrue (machine.is_member (behind_delivery here n) s) → known.acked_stamp ≡ acked_stamp (behind_delivery here n) s
    stamp now = is.stamp (sym stays.member ∙ now) ∙ sym (stamp_told here n s (Installed s boot v) said stays.boot)

    by_taken : (b : Bool) → mark_takes_installed boot known ≡ b → IsKnownRefined (behind_delivery here n) s
        (if b then record known { acked = bit_or known.acked (2 ^ (v - 1)) } else known)
    by_taken true e =
        known_as here (behind_delivery here n) s known (record known { acked = bit_or known.acked (2 ^ (v - 1)) })
        stays is refl refl refl (acked true e) stamp
    by_taken false e =
        known_as here (behind_delivery here n) s known known stays is refl refl refl (acked false e) stamp

stamped_known : (here : List Item) (n s boot v : ℕ) (known : SwitchRecord)
    → journal_body_to_controller here n ≡ Some (Stamped s boot v) → IsKnownRefined here s known
    → IsKnownRefined (here ++ delivered n ∷ []) s (update_after_stamped boot v known)
stamped_known here n s boot v known said is = by_taken (update_takes_stamped boot known) refl where
  stays : AckStays here (behind_delivery here n) s
  stays = ack_stays here n s (Stamped s boot v) said refl

  acked : IsFalse (machine.is_over (behind_delivery here n) s) → (w : ℕ) → 1 ≤ w
      → has_acked known w ≡ machine.has_acked (behind_delivery here n) s w
  acked none w low = is.acked (sym stays.over ∙ none) w low
      ∙ sym (acked_told here n s w (Stamped s boot v) said stays.boot ∙ or-false (machine.has_acked here s w))

  by_own : (b : Bool) (a : ℕ) → (if b then max a v else a)
      ≡ fold max a (option_to_list (if b then Some v else None))
  by_own true a = refl
  by_own false a = refl

  stamp : (b : Bool) → update_takes_stamped boot known ≡ b → IsTrue (machine.is_member (behind_delivery here n) s)
      → (if b then max known.acked_stamp v else known.acked_stamp) ≡ acked_stamp (behind_delivery here n) s
  stamp b e now = let here_member : machine.is_member here s ≡ true = sym stays.member ∙ now in
      subst (λ c. (if c then max known.acked_stamp v else known.acked_stamp)
      ≡ acked_stamp (behind_delivery here n) s) e
      (ap (λ a. if update_takes_stamped boot known then max a v else a) (is.stamp here_member)
      ∙ ap (λ c. if c then max (acked_stamp here s) v else acked_stamp here s)
      (own_boot here s boot known (is_member known.phase) is.boot (is.member ∙ here_member))
      ∙ by_own (s == s && boot == journal_known_boot here s) (acked_stamp here s)
      ∙ sym (stamp_told here n s (Stamped s boot v) said stays.boot))

  by_taken : (b : Bool) → update_takes_stamped boot known ≡ b → IsKnownRefined (behind_delivery here n) s
      (if b then record known { acked_stamp = max known.acked_stamp v } else known)
  by_taken true e =
      known_as here (behind_delivery here n) s known (record known { acked_stamp = max known.acked_stamp v })
      stays is refl refl refl acked (stamp true e)
  by_taken false e =
      known_as here (behind_delivery here n) s known known stays is refl refl refl acked (stamp false e)

-- ---- all marks

-- a body of switch s changes what is known of it alone
told_on : (setting : Setting) (here : List Item)
    (n s : ℕ) (marks : MarksValue) (change : SwitchRecord → SwitchRecord)
    → ((t : ℕ) → t ≢ s → StaysKnown here (here ++ delivered n ∷ []) t) → s < length marks.switches
    → IsKnownRefined (here ++ delivered n ∷ []) s (change (update_record_of marks s))
    → AreMarksRefined setting here marks
    → AreMarksRefined setting (here ++ delivered n ∷ []) (version_marks_with_switch_changed s change marks)
told_on setting here n s marks change others there own are =
    switch_on setting here (delivered n) marks s change (count_more here (delivered n))
    (current_more here (delivered n)) (retired_more here (delivered n)) others there own are

pub marks_told : (setting : Setting) (here : List Item) (n : ℕ) (body : Body) (marks : MarksValue)
    → JournalItemsHaveCauses (HasControlItemCause setting) [] here → journal_body_to_controller here n ≡ Some body
    → ControllerReplyNamesExist body marks → AreMarksRefined setting here marks
    → AreMarksRefined setting (here ++ Item.Delivered n ∷ []) (controller_marks_after body marks)
marks_told setting here n (Hello s boot) marks have said there are = told_on setting here n s marks
    (update_hello_recorded boot) (λ t other. untold here n t (Hello s boot) said
    (ap (λ b. if b then Some boot else None) (other_number s t other)) refl refl) there
    (hello_known setting here n s boot (update_record_of marks s) have said (are.each s there)) are
marks_told setting here n (Installed s boot v) marks have said there are = told_on setting here n s
    marks (mark_record_after_installed boot v) (λ t other. untold here n t (Installed s boot v) said refl
    (ap (λ b. if b && boot == journal_known_boot here t then Some v else None) (other_number s t other))
    refl) there.switch_is (installed_known here n s boot v (update_record_of marks s) there.first said
    (are.each s there.switch_is)) are
marks_told setting here n (Stamped s boot v) marks have said there are = told_on setting here n s
    marks (update_after_stamped boot v) (λ t other. untold here n t (Stamped s boot v) said refl refl
    (ap (λ b. if b && boot == journal_known_boot here t then Some v else None) (other_number s t other)))
    there.switch_is
    (stamped_known here n s boot v (update_record_of marks s) said (are.each s there.switch_is)) are
marks_told setting here n body marks have said there are =
    stay_on setting here (here ++ delivered n ∷ []) marks marks.count marks.current marks.retired
    (λ t. untold here n t body said refl refl refl)
    (are.count ∙ sym (count_more here (delivered n)))
    (are.current ∙ sym (current_more here (delivered n)))
    (are.retired ∙ sym (retired_more here (delivered n))) are

-- ---- a switch that is over

over_known : (here : List Item) (s : ℕ) (known : SwitchRecord) → IsKnownRefined here s known
    → IsKnownRefined (here ++ Item.OverNow s ∷ []) s (mark_record_after_over known)
unfolding machine.is_member
over_known here s known is =
    let next : Item = Item.OverNow s in
    let over : machine.is_over (here ++ next ∷ []) s ≡ true = over_more here next s
    ∙ ap (λ b. if b then true else machine.is_over here s) (eq-eqb s s refl) in
    let member : machine.is_member (here ++ next ∷ []) s ≡ false = rw over refl in record {
      boot = is.boot ∙ sym (known_more here next s);
      over = sym over;
      member = sym member;
      acked = λ none v low. let no : true ≡ false = sym over ∙ none in absurd cc;
      opened = λ now. let no : false ≡ true = sym member ∙ now in absurd cc;
      stamp = λ now. let no : false ≡ true = sym member ∙ now in absurd cc;
    }

pub marks_over : (setting : Setting) (here : List Item) (s : ℕ) (marks : MarksValue)
    → s < length marks.switches → AreMarksRefined setting here marks
    → AreMarksRefined setting (here ++ Item.OverNow s ∷ []) (version_marks_with_switch_changed s mark_record_after_over marks)
marks_over setting here s marks there are = let next : Item = Item.OverNow s in
    switch_on setting here next marks s mark_record_after_over (count_more here next)
    (current_more here next) (retired_more here next)
    (λ t other. quiet_stays here next t (told_more here next) (known_more here next t)
    (over_more here next t
    ∙ ap (λ b. if b then true else machine.is_over here t) (other_number s t other)) refl) there
    (over_known here s (update_record_of marks s) (are.each s there)) are
