-- What one item before those that were read makes of a switch and of its messages.
use Rattle.std.proofs.Common.{[], ◌&&◌, ◌++◌, ◌<◌, ◌||◌, ◌↔◌, ◌∙◌, ◌∷◌, ◌≡◌, ◌⊎◌, Bool, Err, IfOk, IsFalse, IsTrue, List, None, Ok, OnOk, Option, Result, Some, ap, arith, false, get_or, inl, inr, length, length-append, nat_lt, not, option_map, refl, subst, sym, true, ℕ}
use Rattle.std.specs.List.{list_any}
use Rattle.std.specs.Option.{option_map_or}
use Rattle.std.proofs.lemmas.Bool.{and_parts, cases_lt}
use Rattle.std.proofs.lemmas.List.{get_or_append_left, get_or_push}
use Rattle.update_machine.specs.Exports.{AreMachineMessagesReceived, Body, IsJournalMessageReceived, IsJournalMessageReplaced, Item, Message, Place, MachineMessageReplaces, Setting, machine_item_begins_boot, machine_count_of, is_machine_delivery_item, is_of_switch_boot, is_machine_ack_below_version, machine_message_matters, machine_speaking_in_body, was_delivered_in_journal}
use Rattle.ctrl_msg.specs.declared.message.Place.TheVariants as receiver
use Rattle.journal.specs.declared.item.Item.TheVariants as item
use Rattle.convergence_laws.proofs.Exports.{delivered_append}
use Rattle.journal_reports.specs.declared.status.SwitchStatus.{SwitchStatus}
use Rattle.journal_reports.specs.declared.traffic.Traffic.{Traffic}
use Rattle.journal_reports.specs.Exports.{AreEmptyReportBuckets, AreReportTrafficRows, ReportTrafficConcernsOne, IsReportTrafficAdded, IsReportTrafficAfter, IsKeptInReportBucket, IsReportTrafficMet, IsReportTraffic, ReportedMessageSaysAsMuch, report_concerned_switch, report_has_mark, is_named_in_report, matters_in_report_status, report_switch_status_in, report_switch_of_message}
use Rattle.journal_reports.proofs.QuietMessageBuckets.{kept_through, none_kept}
use Rattle.journal_reports.proofs.QuietSayingAsMuch.{matters_too, no_cache_rule, replaces_of, says_of}

-- ---- deliveries

pub none_delivered : (n : ℕ) → false ≡ was_delivered_in_journal [] n
unfolding was_delivered_in_journal
none_delivered n = refl

one_delivered : (next : Item) (n : ℕ) → was_delivered_in_journal (next ∷ []) n ≡ is_machine_delivery_item n next
unfolding was_delivered_in_journal
one_delivered next n = by_test (is_machine_delivery_item n next) refl where
  by_test : (b : Bool) → is_machine_delivery_item n next ≡ b
      → nat_lt 0 (machine_count_of (is_machine_delivery_item n) (next ∷ [])) ≡ b
  by_test true e = rw e refl
  by_test false e = rw e refl

delivered_first : (next : Item) (after : List Item) (n : ℕ)
    → was_delivered_in_journal (next ∷ after) n ≡ (is_machine_delivery_item n next || was_delivered_in_journal after n)
delivered_first next after n = cc (delivered_append (next ∷ []) after n, one_delivered next n)

pub mark_first : (marks now : List Bool) (next : Item) (after : List Item) (n : ℕ)
    → report_has_mark marks n ≡ was_delivered_in_journal after n
    → report_has_mark now n ≡ (is_machine_delivery_item n next || report_has_mark marks n)
    → report_has_mark now n ≡ was_delivered_in_journal (next ∷ after) n
mark_first marks now next after n was is = cc (is, was, delivered_first next after n)

-- what an item sends it doesn't deliver
sent_mark : (marks : List Bool) (number : ℕ) (message : Message) (after : List Item)
    → ((n : ℕ) → report_has_mark marks n ≡ was_delivered_in_journal (item.Sent number message ∷ after) n)
    → report_has_mark marks number ≡ was_delivered_in_journal after number
sent_mark marks number message after right =
    right number ∙ delivered_first (item.Sent number message) after number

-- ---- what matters to a switch

-- it does in its status
in_status : (journal after : List Item) (s : ℕ) (message : Message)
    → matters_in_report_status (report_switch_status_in journal s) (not (list_any (machine_item_begins_boot s) after)) message
    ≡ machine_message_matters journal s message after
in_status journal after s message = by_receiver message.to message.body where
  by_receiver : (to : Place) (body : Body) → matters_in_report_status (report_switch_status_in journal s)
      (not (list_any (machine_item_begins_boot s) after)) (record { to = to; body = body })
      ≡ machine_message_matters journal s (record { to = to; body = body }) after
  by_receiver (receiver.Switch t) body = refl
  by_receiver receiver.Controller body = refl

in_row : (journal after : List Item) (s : ℕ) (row : Traffic) (message : Message)
    → IsReportTraffic journal after s row
    → matters_in_report_status row.status row.is_in_boot message ≡ machine_message_matters journal s message after
in_row journal after s row message is =
    cc (is.status, is.in_boot, in_status journal after s message)

-- it is to it, or of it
matters_named : (status : SwitchStatus) (in_boot : Bool) (message : Message) → matters_in_report_status status
    in_boot message ≡ true → is_named_in_report status.switch (report_switch_of_message message) ≡ true
matters_named status in_boot message matter = by_receiver message.to message.body matter where
  by_speaker : (body : Body) (o : Option (ℕ × ℕ))
      → (status.is_up && option_map_or (is_of_switch_boot status.switch status.boot) o false
      && not (is_machine_ack_below_version status.current body)) ≡ true
      → is_named_in_report status.switch (option_map (λ (of : ℕ × ℕ). of.0) o) ≡ true
  by_speaker body None matter =
      absurd (cc ((and_parts status.is_up false (and_parts _ _ matter).0).1))
  by_speaker body (Some (t, own)) matter =
      (and_parts _ _ (and_parts _ _ (and_parts _ _ matter).0).1).0

  by_receiver : (to : Place) (body : Body)
      → matters_in_report_status status in_boot (record { to = to; body = body }) ≡ true
      → is_named_in_report status.switch (report_switch_of_message (record { to = to; body = body })) ≡ true
  by_receiver (receiver.Switch t) body matter =
      let for = and_parts _ _ (and_parts _ _ matter).0 in (and_parts _ _ (and_parts _ _ for.0).0).1
  by_receiver receiver.Controller body matter = by_speaker body (machine_speaking_in_body body) matter

named : (journal after : List Item) (s : ℕ) (message : Message)
    → IsTrue (machine_message_matters journal s message after) → is_named_in_report s (report_switch_of_message message) ≡ true
named journal after s message matter = matters_named (report_switch_status_in journal s)
    (not (list_any (machine_item_begins_boot s) after)) message (in_status journal after s message ∙ matter)

-- and it does behind fewer items
matters_less : (journal : List Item) (next : Item) (after : List Item) (s : ℕ) (message : Message)
    → IsTrue (machine_message_matters journal s message (next ∷ after)) → IsTrue (machine_message_matters journal s message after)
matters_less journal next after s message matter = sym (in_status journal after s message)
    ∙ fewer (machine_item_begins_boot s next) (list_any (machine_item_begins_boot s) after) message.to message.body
    (in_status journal (next ∷ after) s message ∙ matter)
  where
    fewer : (a b : Bool) (to : Place) (body : Body)
        → matters_in_report_status (report_switch_status_in journal s) (not (a || b)) (record { to = to; body = body }) ≡ true
        → matters_in_report_status (report_switch_status_in journal s) (not b) (record { to = to; body = body }) ≡ true
    fewer false b to body matter = matter
    fewer true b receiver.Controller body matter = matter
    fewer true b (receiver.Switch t) body matter =
        let for = and_parts _ _ (and_parts _ _ matter).0 in
        let clash : false ≡ true = (and_parts _ _ for.0).1 in absurd cc

-- ---- the messages that are kept

-- what replaces a message that matters says as much as it
says_if : (journal after : List Item) (s : ℕ) (row : Traffic) (later message : Message)
    → IsReportTraffic journal after s row → IsTrue (machine_message_matters journal s message after)
    → MachineMessageReplaces later message → ReportedMessageSaysAsMuch later message
says_if journal after s row later message is matter replaces = says_of later message
    (no_cache_rule row.status row.is_in_boot message
    (in_row journal after s row message is ∙ matter)) replaces

kept_on : (journal after : List Item) (s : ℕ) (next : Item) (marks : List Bool) (row now : Traffic)
    (answer : Bool) → ((n : ℕ) → report_has_mark marks n ≡ was_delivered_in_journal (next ∷ after) n)
    → IsReportTraffic journal after s row → IsReportTrafficAfter marks next row now answer
    → (message : Message) → IsTrue (machine_message_matters journal s message (next ∷ after))
    → IsKeptInReportBucket now.buckets.items message ↔ IsJournalMessageReplaced message (next ∷ after)
kept_on journal after s (item.Sent number later) marks row now answer right is step message matter = (
  λ kept. elim ((step.kept is.count message).0 kept) [
    | inl old ↦ inr ((is.kept message matter).0 old)
    | inr added ↦ inl (
      replaces_of later message added.says,
      sym (sent_mark marks number later after right) ∙ added.is_delivered,
    )
  ],
  λ replaced. (step.kept is.count message).1 (elim replaced [
    | inl here ↦ let says = says_if journal after s row later message is matter here.0 in
        inr (record {
          matters = matters_too row.status row.is_in_boot later message says
              (in_row journal after s row message is ∙ matter);
          is_delivered = sent_mark marks number later after right ∙ here.1;
          says = says;
        })
    | inr behind ↦ inl ((is.kept message matter).1 behind)
  ]),
)
kept_on journal after s next marks row now answer right is step message matter =
    let before = matters_less journal next after s message matter in (
      λ kept. elim ((step.kept is.count message).0 kept) [
        | inl old ↦ (is.kept message before).0 old
        | inr none ↦ absurd none
      ],
      λ replaced. (step.kept is.count message).1 (inl ((is.kept message before).1 replaced)),
    )

traffic_on : (journal after : List Item) (s : ℕ) (next : Item) (marks : List Bool)
    (row now : Traffic) (answer : Bool)
    → ((n : ℕ) → report_has_mark marks n ≡ was_delivered_in_journal (next ∷ after) n) → IsReportTraffic journal after s row
    → IsReportTrafficAfter marks next row now answer → IsReportTraffic journal (next ∷ after) s now
traffic_on journal after s next marks row now answer right is step = record {
  status = step.status ∙ is.status;
  in_boot = step.in_boot ∙ ap (λ b. b && not (machine_item_begins_boot row.status.switch next)) is.in_boot
      ∙ ap (λ (status : SwitchStatus). not (list_any (machine_item_begins_boot s) after)
      && not (machine_item_begins_boot status.switch next)) is.status
      ∙ neither (list_any (machine_item_begins_boot s) after) (machine_item_begins_boot s next);
  count = step.count ∙ is.count;
  kept = kept_on journal after s next marks row now answer right is step;
} where
  neither : (a b : Bool) → (not a && not b) ≡ not (b || a)
  neither true true = refl
  neither true false = refl
  neither false true = refl
  neither false false = refl

-- an item that doesn't concern the switch begins no boot of it
no_boot_of : (s : ℕ) (next : Item) → is_named_in_report s (report_concerned_switch next) ≡ false
    → machine_item_begins_boot s next ≡ false
no_boot_of s (item.Booted t boot) other = other
no_boot_of s next other = refl

traffic_stays : (journal after : List Item) (s : ℕ) (next : Item) (row : Traffic)
    → is_named_in_report s (report_concerned_switch next) ≡ false → IsReportTraffic journal after s row
    → IsReportTraffic journal (next ∷ after) s row
traffic_stays journal after s next row other is = record {
  status = is.status;
  in_boot = cc (is.in_boot, no_boot_of s next other);
  count = is.count;
  kept = by_item next other;
} where
  by_item : (next : Item) → is_named_in_report s (report_concerned_switch next) ≡ false → (message : Message)
      → IsTrue (machine_message_matters journal s message (next ∷ after))
      → IsKeptInReportBucket row.buckets.items message ↔ IsJournalMessageReplaced message (next ∷ after)
  by_item (item.Sent number later) other message matter = (
    λ kept. inr ((is.kept message matter).0 kept),
    λ replaced. elim replaced [
      | inl here ↦ let says = says_if journal after s row later message is matter here.0 in
          let its : IsTrue (machine_message_matters journal s later after) =
          sym (in_row journal after s row later is) ∙ matters_too row.status row.is_in_boot later
          message says (in_row journal after s row message is ∙ matter) in
          let clash : false ≡ true = sym other ∙ named journal after s later its in absurd cc
      | inr behind ↦ (is.kept message matter).1 behind
    ],
  )
  by_item next other message matter =
      is.kept message (matters_less journal next after s message matter)

-- one item before those that were read is read, with the marks of what was delivered: of the
-- switches that it concerns the new rows are known, and what is answered
pub record IsReadNext (journal after : List Item) (next : Item) (marks : List Bool)
    (rows now : List Traffic) (answer : Bool) : Type 0 where
  pub right : (n : ℕ) → report_has_mark marks n ≡ was_delivered_in_journal (next ∷ after) n
  pub was : AreReportTrafficRows journal after rows
  pub one : (s : ℕ) (d : Traffic) → s < length rows → is_named_in_report s (report_concerned_switch next) ≡ true
      → IsReportTrafficAfter marks next (get_or rows s d) (get_or now s d) answer

-- so the same is true of all switches
pub traffic_first : (journal after : List Item) (next : Item) (marks : List Bool)
    (rows now : List Traffic) (answer : Bool) → IsReadNext journal after next marks rows now answer
    → length now ≡ length rows → ((s : ℕ) (d : Traffic) → is_named_in_report s (report_concerned_switch next) ≡ false
    → get_or now s d ≡ get_or rows s d) → AreReportTrafficRows journal (next ∷ after) now
traffic_first journal after next marks rows now answer read count others s d there =
    by_test (is_named_in_report s (report_concerned_switch next)) refl
  where
    here : s < length rows
    here = subst (λ n. s < n) count there

    by_test : (b : Bool) → is_named_in_report s (report_concerned_switch next) ≡ b
        → IsReportTraffic journal (next ∷ after) s (get_or now s d)
    by_test true e = traffic_on journal after s next marks (get_or rows s d) (get_or now s d) answer
        read.right (read.was s d here) (read.one s d here e)
    by_test false e = subst (IsReportTraffic journal (next ∷ after) s) (sym (others s d e))
        (traffic_stays journal after s next (get_or rows s d) e (read.was s d here))

-- ---- what was received

-- a switch of the list
some_row : (rows : List Traffic) (s : ℕ) → s < length rows → Traffic
some_row [] s there = absurd (omega arith)
some_row (row ∷ rows) s there = row

-- the answer yes, behind items that were
pub received_first : (setting : Setting) (journal after : List Item)
    (next : Item) (marks : List Bool) (rows now : List Traffic) (answer : Bool)
    → length setting.net.switches ≡ length rows
    → IsReadNext journal after next marks rows now answer → IsTrue answer
    → AreMachineMessagesReceived setting journal after → AreMachineMessagesReceived setting journal (next ∷ after)
received_first setting journal after (item.Sent number message) marks rows now answer count read
    met received = (
      λ s there matter. let below : s < length rows = omega (arith, there, count) in
          each s below (some_row rows s below) matter,
      received,
    )
  where
    each : (s : ℕ) → s < length rows → Traffic → IsTrue (machine_message_matters journal s message after)
        → IsJournalMessageReceived number message after
    each s there d matter =
        let row : Traffic = get_or rows s d in
        let is : IsReportTraffic journal after s row = read.was s d there in
        elim ((read.one s d there (named journal after s message matter)).met.0 met
        (in_row journal after s row message is ∙ matter)) [
          | inl delivered ↦ inl (sym (sent_mark marks number message after read.right) ∙ delivered)
          | inr kept ↦ inr ((is.kept message matter).0 kept)
        ]
received_first setting journal after next marks rows now answer count read met received = received

-- the answer no
pub not_received : (setting : Setting) (journal after : List Item) (next : Item) (marks : List Bool)
    (rows now : List Traffic) (answer : Bool) → length setting.net.switches ≡ length rows
    → IsReadNext journal after next marks rows now answer → ReportTrafficConcernsOne rows next → IsFalse answer
    → AreMachineMessagesReceived setting journal (next ∷ after) → ⊥
not_received setting journal after next marks rows now answer count read concerns unmet received =
    clash (sym unmet ∙ step.met.1 (met next read.right received))
  where
    s : ℕ
    s = concerns.switch

    row : Traffic
    row = get_or rows s (some_row rows s concerns.there)

    is : IsReportTraffic journal after s row
    is = read.was s (some_row rows s concerns.there) concerns.there

    step : IsReportTrafficAfter marks next row (get_or now s (some_row rows s concerns.there)) answer
    step = read.one s (some_row rows s concerns.there) concerns.there concerns.concerned

    clash : false ≡ true → ⊥
    clash e = absurd cc

    met : (next : Item) → ((n : ℕ) → report_has_mark marks n ≡ was_delivered_in_journal (next ∷ after) n)
        → AreMachineMessagesReceived setting journal (next ∷ after) → IsReportTrafficMet marks row next
    met (item.Sent number message) right received = λ matter. elim (received.0 s
        (omega (arith, concerns.there)) (sym (in_row journal after s row message is) ∙ matter)) [
          | inl delivered ↦ inl (sent_mark marks number message after right ∙ delivered)
          | inr replaced ↦ inr
              ((is.kept message (sym (in_row journal after s row message is) ∙ matter)).1 replaced)
        ]
    met next right received = tt

-- ---- what the code makes of a switch

and_not : (b : Bool) → b ≡ (b && not false)
and_not true = refl
and_not false = refl

pub after_sent : {E : Type 0} (marks : List Bool)
    (number : ℕ) (message : Message) (row now : Traffic) (delivered : Bool) (result : Result Bool E)
    → delivered ≡ report_has_mark marks number
    → OnOk result (now.status ≡ row.status) → OnOk result (now.is_in_boot ≡ row.is_in_boot)
    → OnOk result (length now.buckets.items ≡ length row.buckets.items) → OnOk result
    (length row.buckets.items ≡ 64 → (other : Message) → IsKeptInReportBucket now.buckets.items other ↔
    (IsKeptInReportBucket row.buckets.items other ⊎ IsReportTrafficAdded row delivered message other))
    → IfOk result (λ answer. IsTrue answer ↔ (IsTrue (matters_in_report_status row.status row.is_in_boot message)
    → IsTrue delivered ⊎ IsKeptInReportBucket row.buckets.items message))
    → IfOk result (λ answer. IsReportTrafficAfter marks (item.Sent number message) row now answer)
after_sent marks number message row now delivered (Ok answer) is status in_boot count kept received =
    record {
      status = status;
      in_boot = in_boot ∙ and_not row.is_in_boot;
      count = count;
      kept = λ many other. rw is at (kept many other);
      met = rw is at received;
    }
after_sent marks number message row now delivered (Err e) is status in_boot count kept received = tt

-- a message that doesn't matter, or that another one replaces, is passed over
pub passed_over : (row : Traffic) (delivered : Bool) (message other : Message)
    → (IsTrue (matters_in_report_status row.status row.is_in_boot message) → IsKeptInReportBucket row.buckets.items message)
    → IsKeptInReportBucket row.buckets.items other
    ↔ (IsKeptInReportBucket row.buckets.items other ⊎ IsReportTrafficAdded row delivered message other)
passed_over row delivered message other said = (
  λ kept. inl kept,
  λ either. elim either [
    | inl kept ↦ kept
    | inr added ↦ kept_through row.buckets.items message other (said added.matters) added.says
  ],
)

-- ---- before any item is read

pub traffic_at_end : (journal : List Item) (rows : List Traffic) (next : Traffic) (n : ℕ)
    → length rows ≡ n → AreReportTrafficRows journal [] rows → next.status ≡ report_switch_status_in journal n
    → next.is_in_boot ≡ true → AreEmptyReportBuckets next.buckets.items
    → AreReportTrafficRows journal [] (rows ++ next ∷ [])
traffic_at_end journal rows next n count was status in_boot none s d there = elim (cases_lt s n) [
  | inl less ↦ let below : s < length rows = omega (arith, less, count) in
      subst (IsReportTraffic journal [] s)
      (sym (get_or_append_left rows (next ∷ []) d s below)) (was s d below)
  | inr more ↦ let same : n ≡ s =
      omega (arith, more, count, there, length-append rows (next ∷ [])) in
      subst (λ k. IsReportTraffic journal [] k (get_or (rows ++ next ∷ []) k d)) same
      (subst (IsReportTraffic journal [] n) (sym (get_or_push rows next d n count)) first)
] where
  first : IsReportTraffic journal [] n next
  first = record {
    status = status;
    in_boot = in_boot;
    count = none.count;
    kept = λ message matter. (
      λ kept. none_kept next.buckets.items message none kept,
      λ replaced. absurd replaced,
    );
  }
