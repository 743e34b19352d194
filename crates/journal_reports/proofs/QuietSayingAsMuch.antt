-- What says as much as another message.
use Rattle.std.proofs.Common.{◌&&◌, ◌==◌, ◌||◌, ◌∙◌, ◌≡◌, ◌⊎◌, Bool, IsFalse, IsTrue, Some, ap, arith, eq-eqb, eqb-true, false, inl, inr, refl, subst, sym, true, ℕ}
use Rattle.std.proofs.lemmas.Bool.{and_parts, or_right}
use Rattle.std.proofs.lemmas.Bool.Decides.{nat_tests}
use Rattle.control_laws.proofs.Exports.{own}
use Rattle.ctrl_msg.specs.Exports.{body_boot}
use Rattle.update_machine.specs.Exports.{Advert, Advertise, Body, CacheRule, Collect, Hello, Install, Installed, Message, OpenAt, Place, MachineMessageReplaces, Stamp, Stamped, are_machine_tables_old, is_machine_advert_body, is_machine_later_body, is_machine_ack_below_version, machine_speaking_in_body}
use Rattle.ctrl_msg.specs.declared.message.Place.TheVariants as receiver
use Rattle.failover.specs.Exports.{is_newer_advert}
use Rattle.failover.proofs.FailoverNewestAdvert.{newer_through}
use Rattle.journal_reports.specs.declared.status.SwitchStatus.{SwitchStatus}
use Rattle.journal_reports.specs.Exports.{HaveSameListsInReport, ReportedMessageSaysAsMuch, report_is_same_advert, is_same_report_receiver, matters_in_report_status, journal_report_replaces_body, report_subject_of_body}

-- ---- what replaces a body is the same, or is later

advert_means : (one other : Advert) (b : Bool) → report_is_same_advert one other ≡ b
    → (b || (one.origin == other.origin && is_newer_advert one other)) ≡ true
    → (one ≡ other) ⊎ IsTrue (one.origin == other.origin && is_newer_advert one other)
advert_means one other true e says = inl (same_advert one other e) where
  same_advert : (one other : Advert) → report_is_same_advert one other ≡ true → one ≡ other
  same_advert one other e =
      let parts = and_parts _ _ e in
      let first = and_parts _ _ parts.0 in
      let second = and_parts _ _ first.0 in
      let origin : one.origin ≡ other.origin = eqb-true _ _ second.0 in
      let boot : one.boot ≡ other.boot = eqb-true _ _ second.1 in
      let seq : one.seq ≡ other.seq = eqb-true _ _ first.1 in
      let up : one.up ≡ other.up = eqb-true _ _ parts.1 in
      ap (λ o. record { origin = o; boot = one.boot; seq = one.seq; up = one.up }) origin
      ∙ ap (λ b. record { origin = other.origin; boot = b; seq = one.seq; up = one.up }) boot
      ∙ ap (λ n. record { origin = other.origin; boot = other.boot; seq = n; up = one.up }) seq
      ∙ ap (λ u. record { origin = other.origin; boot = other.boot; seq = other.seq; up = u }) up
advert_means one other false e says = inr says

-- a body is another one, or a later one
abbrev pub IsSameOrLater : Body → Body → Type 0
IsSameOrLater later earlier = (later ≡ earlier) ⊎ IsTrue (is_machine_later_body later earlier)

body_means : (later earlier : Body) → journal_report_replaces_body later earlier ≡ true
    → HaveSameListsInReport later earlier → IsSameOrLater later earlier
body_means (Install boot tables) (Install of other) says same =
    let own : boot ≡ of = eqb-true boot of (and_parts _ _ says).0 in
    inl (ap (λ b. Install b tables) own ∙ ap (Install of) same)
body_means (Stamp boot version touched) (Stamp of earlier others) says same =
    grind (arith, nat_tests)
body_means (Advertise one) (Advertise other) says lists =
    elim (advert_means one other (report_is_same_advert one other) refl says) [
      | inl same ↦ inl (ap Advertise same)
      | inr newer ↦ inr newer
    ]
body_means (OpenAt boot version) (OpenAt of other) says same = grind (arith, nat_tests)
body_means (Collect boot version) (Collect of other) says same = grind (arith, nat_tests)
body_means (Hello s boot) (Hello t of) says same = grind (arith, nat_tests)
body_means (Installed s boot version) (Installed t of other) says same = grind (arith, nat_tests)
body_means (Stamped s boot version) (Stamped t of other) says same = grind (arith, nat_tests)
body_means later earlier says same = absurd cc

pub means_of : (later earlier : Message) → ReportedMessageSaysAsMuch later earlier
    → IsSameOrLater later.body earlier.body
means_of later earlier says =
    body_means later.body earlier.body (and_parts _ _ says.message).1 says.lists

receiver_means : (later earlier : Place) → is_same_report_receiver later earlier ≡ true → later ≡ earlier
receiver_means (receiver.Switch s) (receiver.Switch t) same = ap receiver.Switch (eqb-true s t same)
receiver_means receiver.Controller receiver.Controller same = refl
receiver_means later earlier same = absurd cc

receiver_of : (later earlier : Message) → ReportedMessageSaysAsMuch later earlier → later.to ≡ earlier.to
receiver_of later earlier says = receiver_means later.to earlier.to (and_parts _ _ says.message).0

-- so it replaces the other one
pub replaces_of : (later earlier : Message) → ReportedMessageSaysAsMuch later earlier → MachineMessageReplaces later earlier
replaces_of later earlier says = record {
  receiver = receiver_of later earlier says;
  says = means_of later earlier says;
}

-- ---- and what is the same or later replaces a body, but for cache rules

abbrev pub is_cache_rule : Body → Bool
is_cache_rule (CacheRule version word rule action) = true
is_cache_rule _ = false

pub record Covers (later earlier : Body) : Type 0 where
  replaces : journal_report_replaces_body later earlier ≡ true
  lists : HaveSameListsInReport later earlier

body_itself : (body : Body) → IsFalse (is_cache_rule body) → Covers body body
body_itself (Install boot tables) plain =
    record { replaces = rw (own boot, own tables.version) refl; lists = refl }
body_itself (OpenAt boot version) plain =
    record { replaces = rw (own boot, own version) refl; lists = tt }
body_itself (Stamp boot version touched) plain =
    record { replaces = rw (own boot, own version) refl; lists = inr refl }
body_itself (Collect boot version) plain =
    record { replaces = rw (own boot, own version) refl; lists = tt }
body_itself (Advertise advert) plain = record {
  replaces = rw (own advert.origin, own advert.boot, own advert.seq, own advert.up) refl;
  lists = tt;
}
body_itself (Hello s boot) plain = record { replaces = rw (own s, own boot) refl; lists = tt }
body_itself (Installed s boot version) plain =
    record { replaces = rw (own s, own boot, own version) refl; lists = tt }
body_itself (Stamped s boot version) plain =
    record { replaces = rw (own s, own boot, own version) refl; lists = tt }
body_itself body plain = absurd cc

-- both matter to the same switches in the same status
pub record AreAlike (current : ℕ) (later earlier : Body) : Type 0 where
  advert : is_machine_advert_body later ≡ is_machine_advert_body earlier
  boot : body_boot later ≡ body_boot earlier
  speaks : machine_speaking_in_body later ≡ machine_speaking_in_body earlier
  tables : are_machine_tables_old current later ≡ are_machine_tables_old current earlier
  answer : is_machine_ack_below_version current later ≡ is_machine_ack_below_version current earlier

-- what a later body has of the earlier one
pub record IsMore (later earlier : Body) : Type 0 where
  covers : Covers later earlier
  alike : (current : ℕ) → AreAlike current later earlier
  pub about : report_subject_of_body later ≡ report_subject_of_body earlier

pub later_more : (later earlier : Body) → IsTrue (is_machine_later_body later earlier)
    → IsMore later earlier
later_more (Stamp boot version touched) (Stamp of other others) later =
    let parts = and_parts _ _ later in record {
      covers = record { replaces = grind (arith, nat_tests); lists = inl parts.1 };
      alike = λ current. record {
        advert = refl;
        boot = ap Some (eqb-true boot of parts.0);
        speaks = refl;
        tables = refl;
        answer = refl;
      };
      about = refl;
    }
later_more (Collect boot version) (Collect of other) later = record {
  covers = record { replaces = grind (arith, nat_tests); lists = tt };
  alike = λ current. record {
    advert = refl;
    boot = ap Some (eqb-true boot of (and_parts _ _ later).0);
    speaks = refl;
    tables = refl;
    answer = refl;
  };
  about = refl;
}
later_more (Stamped s boot version) (Stamped t of other) later =
    let who = and_parts _ _ (and_parts _ _ later).0 in
    let own : boot ≡ of = eqb-true boot of who.1 in record {
      covers = record { replaces = grind (arith, nat_tests); lists = tt };
      alike = λ current. record {
        advert = refl;
        boot = ap Some own;
        speaks = ap (λ u. Some (u, boot)) (eqb-true s t who.0) ∙ ap (λ b. Some (t, b)) own;
        tables = refl;
        answer = refl;
      };
      about = refl;
    }
later_more (Advertise one) (Advertise other) later = record {
  covers = record { replaces = rw later (or_right (report_is_same_advert one other) true refl); lists = tt };
  alike = λ current.
      record { advert = refl; boot = refl; speaks = refl; tables = refl; answer = refl };
  about = eqb-true one.origin other.origin (and_parts _ _ later).0;
}
later_more later earlier is = absurd cc

receiver_itself : (to : Place) → is_same_report_receiver to to ≡ true
receiver_itself (receiver.Switch s) = own s
receiver_itself receiver.Controller = refl

covers_says : (later earlier : Message) → later.to ≡ earlier.to
    → Covers later.body earlier.body → ReportedMessageSaysAsMuch later earlier
covers_says later earlier to covers =
    let same : is_same_report_receiver later.to earlier.to ≡ true =
    subst (λ r. is_same_report_receiver r earlier.to ≡ true) (sym to) (receiver_itself earlier.to) in
    record { message = rw (same, covers.replaces) refl; lists = covers.lists }

pub says_of : (later earlier : Message) → IsFalse (is_cache_rule earlier.body)
    → MachineMessageReplaces later earlier → ReportedMessageSaysAsMuch later earlier
says_of later earlier plain replaces =
    covers_says later earlier replaces.receiver (elim replaces.says [
      | inl same ↦ rw same (body_itself earlier.body plain)
      | inr more ↦ (later_more later.body earlier.body more).covers
    ])

-- ---- of three messages

later_through : (one two three : Body) → IsTrue (is_machine_later_body one two)
    → IsTrue (is_machine_later_body two three) → IsTrue (is_machine_later_body one three)
later_through (Stamp boot version touched) (Stamp of other others) (Stamp own third words) first
    second = grind (arith, nat_tests)
later_through (Collect boot version) (Collect of other) (Collect own third) first second =
    grind (arith, nat_tests)
later_through (Stamped s boot version) (Stamped t of other) (Stamped r own third) first second =
    grind (arith, nat_tests)
later_through (Advertise one) (Advertise two) (Advertise three) first second =
    let mine = and_parts _ _ first in
    let its = and_parts _ _ second in
    let origin : (one.origin == three.origin) ≡ true = eq-eqb one.origin three.origin
    (eqb-true one.origin two.origin mine.0 ∙ eqb-true two.origin three.origin its.0) in
    rw (origin, newer_through one two three mine.1 its.1) refl
later_through one two three first second = absurd cc

pub says_through : (one two three : Message) → ReportedMessageSaysAsMuch one two → ReportedMessageSaysAsMuch two three
    → ReportedMessageSaysAsMuch one three
says_through one two three first second = elim (means_of one two first) [
  | inl same ↦ rw (same_message one two (receiver_of one two first) same) second
  | inr later ↦ elim (means_of two three second) [
    | inl same ↦ rw (same_message two three (receiver_of two three second) same) at first
    | inr more ↦ covers_says one three
        (receiver_of one two first ∙ receiver_of two three second) (later_more one.body
        three.body (later_through one.body two.body three.body later more)).covers
  ]
] where
  same_message : (a b : Message) → a.to ≡ b.to → a.body ≡ b.body → a ≡ b
  same_message a b to body = ap (λ t. record { to = t; body = a.body }) to
      ∙ ap (λ x. record { to = b.to; body = x }) body

-- ---- what says as much as a message that matters does too

alike : (current : ℕ) (later earlier : Body) → IsSameOrLater later earlier
    → AreAlike current later earlier
alike current later earlier (inl same) = subst (λ body. AreAlike current body earlier) (sym same)
    (record { advert = refl; boot = refl; speaks = refl; tables = refl; answer = refl })
alike current later earlier (inr more) = (later_more later earlier more).alike current

pub matters_too : (status : SwitchStatus) (in_boot : Bool) (later earlier : Message)
    → ReportedMessageSaysAsMuch later earlier → matters_in_report_status status in_boot earlier ≡ true
    → matters_in_report_status status in_boot later ≡ true
matters_too status in_boot later earlier says matter = by_receiver later.to later.body earlier.body
    (alike status.current later.body earlier.body (means_of later earlier says))
    (rw (receiver_of later earlier says) matter)
  where
    by_receiver : (to : Place) (later earlier : Body) → AreAlike status.current later earlier
        → matters_in_report_status status in_boot (record { to = to; body = earlier }) ≡ true
        → matters_in_report_status status in_boot (record { to = to; body = later }) ≡ true
    by_receiver (receiver.Switch s) later earlier same matter =
        rw (same.advert, same.boot, same.tables) matter
    by_receiver receiver.Controller later earlier same matter = rw (same.speaks, same.answer) matter

-- a cache rule never matters
pub no_cache_rule : (status : SwitchStatus) (in_boot : Bool) (message : Message)
    → matters_in_report_status status in_boot message ≡ true → IsFalse (is_cache_rule message.body)
no_cache_rule status in_boot message matter = by_body message.to message.body matter where
  false_true : {X : Type 0} → false ≡ true → X
  false_true e = absurd cc

  by_body : (to : Place) (body : Body) → matters_in_report_status status in_boot
      (record { to = to; body = body }) ≡ true → IsFalse (is_cache_rule body)
  by_body (receiver.Switch s) (CacheRule version word rule action) matter =
      false_true (and_parts _ _ (and_parts _ _ matter).0).1
  by_body receiver.Controller (CacheRule version word rule action) matter =
      false_true (and_parts _ _ (and_parts _ _ matter).0).1
  by_body to body matter = refl
