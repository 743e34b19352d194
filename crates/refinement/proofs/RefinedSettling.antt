-- The marks settle as the journal's rule says, and what is sent then is what the definition says.
use Rattle.std.proofs.Common.{[], if◌then◌else◌, ◌&&◌, ◌++◌, ◌+◌, ◌-◌, ◌<◌, ◌==◌, ◌||◌, ◌∙◌, ◌∷◌, ◌≡◌, ◌≤◌, Bool, IsFalse, IsTrue, List, None, Option, Some, ap, append-nil, append_assoc, arith, eq-eqb, eqb-true, false, filter, is_some, length, map, nat_lt, not, refl, rules, slice_get, subst, sym, true, unwrap_or, ℕ}
use Rattle.base.proofs.Exports.{each_always, each_map, fill_by_all, filter_made, get_or-map, length-map, list_all, list_all-map, list_any, map_twice, nat_tests, option_map_or, option_or, picked_same, range_with_len, slice_get-get_or}
use Rattle.update_machine.specs.Exports.{Body, Collect, JournalItemsHaveCauses, Item, Message, OpenAt, Setting, Stamp, acked_stamp, journal_controller_heard, machine_current_items, journal_current_mark, machine_first_open, journal_items_then, journal_known_boot, machine_least_number, journal_next_current, journal_next_message, journal_next_retired, journal_open_for, machine_open_version_in, machine_open_items, open_version, journal_opened_at, machine_opening_switches, machine_retired_items, journal_retired_mark, machine_send_items, machine_sent_items_from, machine_settling, machine_switches_of, machine_message_to_switch, machine_touched_by, journal_version_count}
use Rattle.update_machine.specs.Marks as machine
use Rattle.update_machine.proofs.Exports.{have_append}
use Rattle.control_laws.specs.Exports.{HasControlItemCause, ControlMarksAreBounded}
use Rattle.control_laws.proofs.Exports.{ReopensAlone, acked_same, acked_stamp_opened, behind, bounded, count_more, current_more, have_front, in_three, known_more, leaves_keep, member_of, member_parts, opened_at_more, over_more, retired_more, sends_leave, settling_have, stamp_same, told_more}
use Rattle.version_update.specs.Marks as marks
use Rattle.version_update.specs.Exports.{MarksValue, CurrentMarkRisesTo, SettlesVersionMarks, has_acked, is_joining, is_member, is_over, update_joining_opens_at, update_record_of, unknown_update_record}
use Rattle.version_update.specs.Record as known
use Rattle.version_update.specs.declared.marks.Settled.{Settled}
use Rattle.version_update.specs.declared.record.Phase.{Phase}
use Rattle.version_update.specs.declared.record.Phase.TheVariants.{Joining, Member, Over}
use Rattle.version_update.specs.declared.record.SwitchRecord.{SwitchRecord}
use Rattle.controller.specs.Sends as acts
use Rattle.controller.specs.Exports.{controller_recorded_boot, controller_posts_to, controller_switches_by_record}
use Rattle.controller.specs.declared.sends.Act.{Act}
use Rattle.controller.specs.declared.sends.Act.TheVariants.{Current, Post, Retired}
use Rattle.refinement.specs.Exports.{AreMarksRefined, IsKnownRefined, refined_act_item, refined_acts_written}
use Rattle.refinement.proofs.RefinedKeptController.{current_on, known_on, marks_on, posted, retired_on, written_in_three}
use Rattle.refinement.proofs.RefinedRanges.{any_picked, passing_is}
use Rattle.ternary.specs.Exports.{WordValue}

-- ---- members, and what is told

made : (value : MarksValue)
    → value.switches ≡ map (update_record_of value) (range_with_len 0 (length value.switches))
made value = fill_by_all (update_record_of value) value.switches (length value.switches) unknown_update_record refl
    (λ k below. refl)

-- what is made of the members is the same
members_made : {X : Type 0} (f : SwitchRecord → X) (g : ℕ → X) (setting : Setting)
    (journal : List Item) (value : MarksValue) → AreMarksRefined setting journal value
    → ((s : ℕ) → IsKnownRefined journal s (update_record_of value s) → IsTrue (machine.is_member journal s)
    → f (update_record_of value s) ≡ g s)
    → map f (marks.update_member_records value.switches) ≡ map g (machine.members setting journal)
members_made f g setting journal value are makes =
    let of : ℕ → SwitchRecord = update_record_of value in
    let n : ℕ = length value.switches in
    ap (λ xs. map f (marks.update_member_records xs)) (made value)
    ∙ ap (map f) (filter_made of (λ known. is_member known.phase) (range_with_len 0 n))
    ∙ map_twice of f (filter (λ s. is_member (of s).phase) (range_with_len 0 n))
    ∙ ap (λ k. map (λ s. f (of s)) (filter (λ s. is_member (of s).phase) (range_with_len 0 k)))
    are.many
    ∙ picked_same (λ s. f (of s)) g (λ s. is_member (of s).phase) (machine.is_member journal) 0
    (length setting.net.switches)
    (λ s above below. (are.each s (omega (arith, below, are.many))).member)
    (λ s above below is. makes s (are.each s (omega (arith, below, are.many))) is)

-- a version that all members acknowledged
all_same : (setting : Setting) (journal : List Item) (value : MarksValue) (v : ℕ) → 1 ≤ v
    → AreMarksRefined setting journal value
    → marks.update_all_have_acked v value.switches ≡ machine.machine_all_acked setting journal v
all_same setting journal value v low are =
    sym (list_all-map (λ b. b) (λ known. has_acked known v) (marks.update_member_records value.switches))
    ∙ ap (list_all (λ b. b))
    (members_made (λ known. has_acked known v) (λ s. machine.has_acked journal s v) setting journal
    value are (λ s is member. is.acked (member_parts journal s member).0 v low))
    ∙ list_all-map (λ b. b) (λ s. machine.has_acked journal s v) (machine.members setting journal)

-- what switches are told that pass a test
pub told_posted : (f : ℕ → Act) (g : ℕ → Message) (passes : SwitchRecord → Bool) (q : ℕ → Bool)
    (setting : Setting) (journal : List Item) (value : MarksValue)
    → length value.switches ≡ length setting.net.switches
    → ((s : ℕ) → s < length value.switches → passes (update_record_of value s) ≡ q s)
    → ((s : ℕ) → s < length value.switches → f s ≡ Post (g s))
    → refined_acts_written journal (map f (controller_switches_by_record passes value.switches))
    ≡ machine_send_items journal (map g (filter q (machine_switches_of setting)))
told_posted f g passes q setting journal value many tests makes =
    let p : ℕ → Bool = λ s. option_map_or passes (slice_get value.switches s) false in
    ap (refined_acts_written journal)
    (ap (λ n. map f (filter p (range_with_len 0 n))) many
    ∙ picked_same f (λ s. Post (g s)) p q 0 (length setting.net.switches)
    (λ s above below. let there : s < length value.switches = omega (arith, below, many) in
    ap (λ o. option_map_or passes o false) (slice_get-get_or value.switches s unknown_update_record there)
    ∙ tests s there)
    (λ s above below is. makes s (omega (arith, below, many)))
    ∙ sym (map_twice g Post (filter q (machine_switches_of setting))))
    ∙ posted (map g (filter q (machine_switches_of setting))) journal

-- messages that open no switch leave the marks
pub leave_on : (setting : Setting) (journal : List Item) (value : MarksValue)
    (message : ℕ → Message) (switches : List ℕ)
    → ((s : ℕ) → ReopensAlone journal (message s)) → AreMarksRefined setting journal value
    → AreMarksRefined setting (journal ++ machine_send_items journal (map message switches)) value
leave_on setting journal value message switches leaves are = marks_on setting journal
    (journal ++ machine_send_items journal (map message switches)) value
    (leaves_keep journal (machine_send_items journal (map message switches))
    (sends_leave journal (map message switches) (each_map (ReopensAlone journal) message switches
    (each_always (λ s. ReopensAlone journal (message s)) leaves switches)))) are

-- ---- current rises

rises_same : (setting : Setting) (now : List Item) (before : MarksValue) (current : ℕ)
    → AreMarksRefined setting now before → CurrentMarkRisesTo before current → current ≡ journal_next_current setting now
unfolding journal_next_current
rises_same setting now before current are rises =
    let first = are.current in
    let last = are.count in
    let many = passing_is (machine.machine_all_acked setting now)
    (journal_current_mark now + 1) (journal_version_count now - journal_current_mark now) (current - before.current)
    (omega (arith, first, rises.bound, rises.rises))
    (λ v above below. subst IsTrue (all_same setting now before v (omega arith) are)
    (rises.acknowledged v (omega (arith, first)) (omega (arith, first, rises.rises)))) (λ more.
    subst (λ v. IsFalse (machine.machine_all_acked setting now v)) (sym (omega (arith, first, rises.rises)))
    (sym (all_same setting now before (current + 1) (omega arith) are)
    ∙ rises.stopped (omega (arith, first, rises.rises)))) in
    omega (arith, first, many, rises.rises)

-- the boots that are known stay so
abbrev SameBoots : List Item → MarksValue → ℕ → Type 0
SameBoots journal after n = (s : ℕ) → s < n → controller_recorded_boot after s ≡ journal_known_boot journal s

-- members are told of a mark
abbrev adverts_over : (ℕ → Body) → List Item → ℕ → Message
adverts_over body journal s = machine_message_to_switch s (body (journal_known_boot journal s))

-- a mark rises and members are told of it, or it stays
abbrev risen_items : Setting → List Item → Item → (ℕ → Body) → Bool → List Item
risen_items setting journal next body b = elim b [
  | false ↦ []
  | true ↦ journal_items_then (next ∷ []) (λ raised.
      machine_send_items raised (map (adverts_over body journal) (machine.members setting journal))) journal
]

-- then the marks are the risen ones
rises_by : (setting : Setting) (journal : List Item) (after value risen : MarksValue) (act : Act)
    (body : ℕ → Body) → AreMarksRefined setting journal value
    → SameBoots journal after (length value.switches)
    → ((s : ℕ) → ReopensAlone (journal ++ refined_act_item journal act ∷ []) (adverts_over body journal s))
    → AreMarksRefined setting (journal ++ refined_act_item journal act ∷ []) risen
    → (b : Bool) → (b ≡ false → AreMarksRefined setting journal risen) → (refined_acts_written journal (if b
    then act ∷ controller_posts_to after body (controller_switches_by_record (λ known. is_member known.phase) value.switches)
    else []) ≡ risen_items setting journal (refined_act_item journal act) body b)
    × AreMarksRefined setting (journal ++ risen_items setting journal (refined_act_item journal act) body b) risen
rises_by setting journal after value risen act body are boots leaves rises false stays = (
  refl,
  subst (λ js. AreMarksRefined setting js risen) (sym (append-nil journal)) (stays refl),
)
rises_by setting journal after value risen act body are boots leaves rises true stays =
    let next : Item = refined_act_item journal act in
    let raised : List Item = journal ++ next ∷ [] in
    let message : ℕ → Message = adverts_over body journal in (
      ap (λ items. next ∷ items) (told_posted (λ s. acts.controller_post_act s (body (controller_recorded_boot after s)))
          message (λ known. is_member known.phase) (machine.is_member journal) setting raised value
          are.many (λ s there. (are.each s there).member)
          (λ s there. ap (λ boot. Post (machine_message_to_switch s (body boot))) (boots s there))),
      rw (append_assoc journal
          (next ∷ []) (machine_send_items raised (map message (machine.members setting journal)))) at
          (leave_on setting raised risen message (machine.members setting journal) leaves rises),
    )

-- so it is where a mark rises to what the journal says
rises_on : (setting : Setting) (journal : List Item) (after value : MarksValue)
    (risen : ℕ → MarksValue) (act : ℕ → Act) (body : ℕ → ℕ → Body) (low high mark version : ℕ)
    → low ≡ mark → high ≡ version → AreMarksRefined setting journal value
    → SameBoots journal after (length value.switches) → ((s : ℕ) → ReopensAlone
    (journal ++ refined_act_item journal (act version) ∷ []) (adverts_over (body version) journal s))
    → AreMarksRefined setting (journal ++ refined_act_item journal (act version) ∷ []) (risen version)
    → (nat_lt mark version ≡ false → AreMarksRefined setting journal (risen version))
    → (let items = risen_items setting journal (refined_act_item journal (act version)) (body version)
    (nat_lt mark version) in
    (refined_acts_written journal (if nat_lt low high then act high ∷ controller_posts_to after (body high)
    (controller_switches_by_record (λ known. is_member known.phase) value.switches) else []) ≡ items)
    × AreMarksRefined setting (journal ++ items) (risen high))
rises_on setting journal after value risen act body low high mark version low_is high_is are boots
    leaves rises stays = rw (low_is, high_is) (rises_by setting journal after value (risen version)
    (act version) (body version) are boots leaves rises (nat_lt mark version) stays)

raises_on : (setting : Setting) (now : List Item) (before after : MarksValue)
    (touched : List WordValue) → touched ≡ machine_touched_by setting now after.current
    → AreMarksRefined setting now before → before.current ≤ after.current
    → after.current ≡ journal_next_current setting now
    → SameBoots now after (length before.switches)
    → (refined_acts_written now (acts.controller_stamp_acts touched before after) ≡ machine_current_items setting now)
    × AreMarksRefined setting (now ++ machine_current_items setting now)
    (record before { current = after.current })
unfolding machine_current_items
raises_on setting now before after touched says are up is boots = subst
    (λ words. (refined_acts_written now (acts.controller_stamp_acts words before after) ≡ machine_current_items setting now)
    × AreMarksRefined setting (now ++ machine_current_items setting now)
    (record before { current = after.current })) (sym says) (rises_on setting now after before
    (λ v. record before { current = v }) Current (λ v boot. Stamp boot v (machine_touched_by setting now v))
    before.current after.current (journal_current_mark now) (journal_next_current setting now) are.current is are
    boots (λ s. tt) (current_on setting now (journal_next_current setting now) before are)
    (λ e. let stays : journal_next_current setting now ≡ journal_current_mark now =
    let first = are.current in grind (arith, nat_tests) in
    search (rules, are.each)))

-- ---- joining switches open

phase_joins : (phase : Phase) → is_joining phase ≡ (not (is_over phase) && not (is_member phase))
phase_joins Joining = refl
phase_joins Member = refl
phase_joins Over = refl

joining_parts : (journal : List Item) (s : ℕ) → IsTrue (machine.is_joining journal s)
    → IsFalse (machine.is_over journal s) × (journal_opened_at journal s ≡ None)
unfolding machine.is_member
joining_parts journal s joins = grind arith

opens_same : (journal : List Item) (s version : ℕ) (value : SwitchRecord)
    → IsKnownRefined journal s value → 1 ≤ version → update_joining_opens_at version value
    ≡ (machine.is_joining journal s && machine.has_acked journal s version)
opens_same journal s version value is low =
    cc (phase_joins value.phase, is.over, is.member, by_joining (machine.is_joining journal s) refl)
  where
    by_joining : (b : Bool) → machine.is_joining journal s ≡ b
        → (b && has_acked value version) ≡ (b && machine.has_acked journal s version)
    by_joining true e = is.acked (joining_parts journal s e).0 version low
    by_joining false e = refl

-- what messages leave, whichever they are
record SentStay (before after : List Item) : Type 0 where
  heard : journal_controller_heard after ≡ journal_controller_heard before
  known : (s : ℕ) → journal_known_boot after s ≡ journal_known_boot before s
  over : (s : ℕ) → machine.is_over after s ≡ machine.is_over before s
  count : journal_version_count after ≡ journal_version_count before
  current : journal_current_mark after ≡ journal_current_mark before
  retired : journal_retired_mark after ≡ journal_retired_mark before

sent_stay : (messages : List Message) (journal : List Item) (n : ℕ)
    → SentStay journal (journal ++ machine_sent_items_from n messages)
unfolding machine_sent_items_from
sent_stay [] journal n = subst (SentStay journal) (sym (append-nil journal)) (record {
  heard = refl;
  known = λ s. refl;
  over = λ s. refl;
  count = refl;
  current = refl;
  retired = refl;
})
sent_stay (message ∷ messages) journal n =
    let next : Item = Item.Sent n message in
    let rest = sent_stay messages (journal ++ next ∷ []) (n + 1) in
    subst (SentStay journal) (append_assoc journal (next ∷ []) (machine_sent_items_from (n + 1) messages))
    (record {
      heard = rest.heard ∙ told_more journal next;
      known = λ s. rest.known s ∙ known_more journal next s;
      over = λ s. rest.over s ∙ over_more journal next s;
      count = rest.count ∙ count_more journal next;
      current = rest.current ∙ current_more journal next;
      retired = rest.retired ∙ retired_more journal next;
    })

abbrev some_if : Bool → ℕ → Option ℕ
some_if true version = Some version
some_if false version = None

or_twice : (o : Option ℕ) (b c : Bool) (version : ℕ) → option_or (option_or o (some_if b version))
    (some_if c version) ≡ option_or o (some_if (b || c) version)
or_twice None true true version = refl
or_twice None true false version = refl
or_twice None false c version = refl
or_twice (Some w) b c version = refl

or_none : (o : Option ℕ) → option_or o None ≡ o
or_none None = refl
or_none (Some x) = refl

-- switches that are opened one after another
opened_many : (base journal : List Item) (n version s : ℕ) (switches : List ℕ)
    → ((t : ℕ) → journal_known_boot journal t ≡ journal_known_boot base t)
    → journal_opened_at (journal ++ machine_sent_items_from n (map (journal_open_for base version) switches)) s
    ≡ option_or (journal_opened_at journal s) (some_if (list_any (λ t. t == s) switches) version)
unfolding machine_sent_items_from
opened_many base journal n version s [] same =
    ap (λ js. journal_opened_at js s) (append-nil journal) ∙ sym (or_none (journal_opened_at journal s))
opened_many base journal n version s (t ∷ switches) same =
    ap (λ js. journal_opened_at js s) (sym (append_assoc journal (next ∷ []) (machine_sent_items_from (n + 1) messages)))
    ∙ opened_many base (journal ++ next ∷ []) (n + 1) version s switches
    (λ u. known_more journal next u ∙ same u)
    ∙ ap (λ o. option_or o (some_if (list_any (λ u. u == s) switches) version))
    (opened_at_more journal next s (known_more journal next s)
    ∙ ap (option_or (journal_opened_at journal s)) (opens (t == s) refl))
    ∙ or_twice (journal_opened_at journal s) (t == s) (list_any (λ u. u == s) switches) version
  where
    next : Item
    next = Item.Sent n (journal_open_for base version t)

    messages : List Message
    messages = map (journal_open_for base version) switches

    opens : (b : Bool) → (t == s) ≡ b → machine_first_open (if b then machine_open_version_in (journal_known_boot journal s)
        (OpenAt (journal_known_boot base t) version) else []) ≡ some_if b version
    opens true e = cc (eq-eqb (journal_known_boot base t) (journal_known_boot journal s)
        (ap (journal_known_boot base) (eqb-true t s e) ∙ sym (same s)))
    opens false e = refl

-- a switch behind its opening
opened_known : (one two : List Item) (s version : ℕ) (value : SwitchRecord) → IsKnownRefined one s value
    → 1 ≤ version → SentStay one two → journal_opened_at two s ≡ option_or (journal_opened_at one s)
    (some_if (machine.is_joining one s && machine.has_acked one s version) version)
    → acked_stamp two s ≤ version → IsKnownRefined two s (known.opened_update_record version value)
opened_known one two s version value is low stay now most = by_opens (update_joining_opens_at version value) refl
  where
    tests : update_joining_opens_at version value ≡ (machine.is_joining one s && machine.has_acked one s version)
    tests = opens_same one s version value is low

    joins : (b c : Bool) → IsTrue (b && c) → IsTrue b
    joins true c is = refl
    joins false c is = cc

    acked : (v : ℕ) → machine.has_acked two s v ≡ machine.has_acked one s v
    acked v = acked_same two one s v stay.heard

    by_opens : (b : Bool) → update_joining_opens_at version value ≡ b → IsKnownRefined two s (if b then record value
        { phase = Member; open_version = version; acked_stamp = version } else value)
    by_opens true e =
        let passes = sym tests ∙ e in
        let parts = joining_parts one s
        (joins (machine.is_joining one s) (machine.has_acked one s version) passes) in
        let opened = now ∙ ap (λ b. option_or (journal_opened_at one s) (some_if b version)) passes
        ∙ ap (λ o. option_or o (Some version)) parts.1 in
        let over : machine.is_over two s ≡ false = stay.over s ∙ parts.0 in
        let member = member_of two s over (ap (λ o. is_some o) opened) in
        let opening_switches : open_version two s ≡ version = ap (λ o. unwrap_or o 0) opened in
        record {
          boot = is.boot ∙ sym (stay.known s);
          over = sym over;
          member = sym member;
          acked = λ none v first. is.acked parts.0 v first ∙ sym (acked v);
          opened = λ is. sym opening_switches;
          stamp = λ is. omega (arith, opening_switches, acked_stamp_opened two s, most);
        }
    by_opens false e =
        let same = now ∙ ap (λ b. option_or (journal_opened_at one s) (some_if b version)) (sym tests ∙ e)
        ∙ or_none (journal_opened_at one s) in
        known_on one two s value
        (record {
          boot = stay.known s;
          over = stay.over s;
          opened = same;
          acked = acked;
          stamp = stamp_same one two s stay.heard (stay.known s) same;
        }) is

-- what is known of a switch behind the openings
record_opened : (before after : MarksValue) (version s : ℕ)
    → after.switches ≡ map (known.opened_update_record version) before.switches
    → s < length before.switches
    → update_record_of after s ≡ known.opened_update_record version (update_record_of before s)
record_opened before after version s switches there =
    ap (λ xs. marks.update_record_of (record after { switches = xs }) s) switches
    ∙ get_or-map (known.opened_update_record version) before.switches s unknown_update_record unknown_update_record there

opens_on : (setting : Setting) (one : List Item) (before after : MarksValue)
    → AreMarksRefined setting one before → 1 ≤ before.current
    → after.count ≡ before.count → after.current ≡ before.current
    → after.switches ≡ map (known.opened_update_record before.current) before.switches
    → SameBoots one after (length before.switches)
    → ControlMarksAreBounded setting (one ++ machine_open_items setting one)
    → (refined_acts_written one (acts.controller_open_acts before after) ≡ machine_open_items setting one)
    × AreMarksRefined setting (one ++ machine_open_items setting one) (record after { retired = before.retired })
unfolding machine_open_items
opens_on setting one before after are low count current switches boots bounds = (
  told_posted (λ s. acts.controller_post_act s (OpenAt (controller_recorded_boot after s) after.current))
      (journal_open_for one (journal_current_mark one)) (update_joining_opens_at after.current) test setting one before are.many
      (λ s there. ap (λ v. update_joining_opens_at v (update_record_of before s)) (current ∙ are.current) ∙ opens_same one
      s (journal_current_mark one) (update_record_of before s) (are.each s there) first)
      (λ s there. ap (λ boot. Post (machine_message_to_switch s (OpenAt boot after.current))) (boots s there)
      ∙ ap (λ v. Post (journal_open_for one v s)) (current ∙ are.current)),
  record {
    count = count ∙ are.count ∙ sym stay.count;
    current = current ∙ are.current ∙ sym stay.current;
    retired = are.retired ∙ sym stay.retired;
    many = long ∙ are.many;
    each = λ s there. let below : s < length before.switches = omega (arith, there, long) in
        subst (IsKnownRefined two s) (sym (record_opened before after before.current s switches below))
        (rw are.current (opened_known one two s (journal_current_mark one) (update_record_of before s)
        (are.each s below) first stay (now s below) (omega (arith, bounds.known s, stay.current))));
  },
) where
  test : ℕ → Bool
  test s = machine.is_joining one s && machine.has_acked one s (journal_current_mark one)

  two : List Item
  two = one ++ machine_send_items one (map (journal_open_for one (journal_current_mark one)) (machine_opening_switches setting one))

  first : 1 ≤ journal_current_mark one
  first = let is = are.current in omega (arith, low, is)

  stay : SentStay one two
  stay = sent_stay (map (journal_open_for one (journal_current_mark one)) (machine_opening_switches setting one)) one
      (journal_next_message one)

  long : length after.switches ≡ length before.switches
  long = ap length switches ∙ length-map before.switches (known.opened_update_record before.current)

  now : (s : ℕ) → s < length before.switches → journal_opened_at two s
      ≡ option_or (journal_opened_at one s) (some_if (test s) (journal_current_mark one))
  now s below = opened_many one one (journal_next_message one) (journal_current_mark one) s
      (machine_opening_switches setting one) (λ t. refl)
      ∙ ap (λ b. option_or (journal_opened_at one s) (some_if b (journal_current_mark one))) (any_picked test s 0
      (length setting.net.switches) (omega arith) (omega (arith, below, are.many)))

-- ---- retired rises

retires_same : (setting : Setting) (two : List Item) (value : MarksValue)
    → AreMarksRefined setting two value → marks.update_retired_of value ≡ journal_next_retired setting two
unfolding journal_next_retired
retires_same setting two value are = ap (λ xs. unwrap_or (machine_least_number xs) value.current - 1)
    (members_made (λ known. known.acked_stamp) (acked_stamp two) setting two value are
    (λ s is member. is.stamp member))
    ∙ ap (λ c. unwrap_or (machine_least_number (map (acked_stamp two) (machine.members setting two))) c - 1)
    are.current

retires_on : (setting : Setting) (two : List Item) (before after : MarksValue)
    → AreMarksRefined setting two (record after { retired = before.retired })
    → after.retired ≡ journal_next_retired setting two → journal_retired_mark two ≤ journal_next_retired setting two
    → SameBoots two after (length after.switches)
    → (refined_acts_written two (acts.controller_collect_acts before after) ≡ machine_retired_items setting two)
    × AreMarksRefined setting (two ++ machine_retired_items setting two) after
unfolding machine_retired_items
retires_on setting two before after are is least_is boots = rises_on setting two after
    (record after { retired = before.retired }) (λ v. record after { retired = v }) Retired
    (λ v boot. Collect boot v) before.retired after.retired (journal_retired_mark two)
    (journal_next_retired setting two) are.retired is are boots (λ s. tt) (retired_on setting two
    (journal_next_retired setting two) (record after { retired = before.retired }) are)
    (λ e. search (rules, are.each))

-- ---- together

boot_opened : (b : Bool) (version : ℕ) (value : SwitchRecord) → (if b then record value
    { phase = Member; open_version = version; acked_stamp = version } else value).boot ≡ value.boot
boot_opened true version value = refl
boot_opened false version value = refl

-- each item has its cause
abbrev pub AreCaused : Setting → List Item → Type 0
AreCaused setting journal = JournalItemsHaveCauses (HasControlItemCause setting) [] journal

-- settling changes no boot
pub settled_boot : (before after : MarksValue) (answer : Settled) (s : ℕ)
    → SettlesVersionMarks before after answer → s < length before.switches
    → controller_recorded_boot after s ≡ controller_recorded_boot before s
settled_boot before after answer s is there =
    ap (λ value. value.boot) (record_opened before after after.current s is.switches there)
    ∙ boot_opened (update_joining_opens_at after.current (update_record_of before s)) after.current (update_record_of before s)

pub settling_caused : (setting : Setting) (now : List Item) → AreCaused setting now
    → AreCaused setting (now ++ machine_settling setting now)
settling_caused setting now have = have_append (HasControlItemCause setting) [] now (machine_settling setting now)
    have (settling_have setting now)

pub settles_so : (setting : Setting) (now : List Item) (before after : MarksValue)
    (answer : Settled) (touched : List WordValue)
    → touched ≡ machine_touched_by setting now after.current → AreCaused setting now
    → AreMarksRefined setting now before → SettlesVersionMarks before after answer
    → (refined_acts_written now (acts.controller_settling_acts touched before after) ≡ machine_settling setting now)
    × AreMarksRefined setting (now ++ machine_settling setting now) after
unfolding machine_settling
settles_so setting now before after answer touched says have are is = (
  written_in_three now (machine_current_items setting) (machine_open_items setting) (machine_retired_items setting)
      (acts.controller_stamp_acts touched before after) (acts.controller_open_acts before after)
      (acts.controller_collect_acts before after) raises.0 opens.0 retires.0,
  rw (in_three (machine_current_items setting) (machine_open_items setting) (machine_retired_items setting) now) retires.1,
) where
  one : List Item
  one = now ++ machine_current_items setting now

  two : List Item
  two = one ++ machine_open_items setting one

  two_have : AreCaused setting two
  two_have = have_front (HasControlItemCause setting) [] two (machine_retired_items setting two)
      (subst (AreCaused setting) (in_three (machine_current_items setting) (machine_open_items setting)
      (machine_retired_items setting) now) (settling_caused setting now have))

  low : 1 ≤ after.current
  low = omega (arith, are.current, (bounded setting now have).first, is.current.rises)

  boots : SameBoots now after (length before.switches)
  boots s there = settled_boot before after answer s is there ∙ (are.each s there).boot

  raises : (refined_acts_written now (acts.controller_stamp_acts touched before after) ≡ machine_current_items setting now)
      × AreMarksRefined setting one (record before { current = after.current })
  raises = raises_on setting now before after touched says are is.current.rises
      (rises_same setting now before after.current are is.current) boots

  same : (s : ℕ) → s < length before.switches → journal_known_boot one s ≡ journal_known_boot now s
  same s there = sym (raises.1.each s there).boot ∙ (are.each s there).boot

  opens : (refined_acts_written one (acts.controller_open_acts before after) ≡ machine_open_items setting one)
      × AreMarksRefined setting two (record after { retired = before.retired })
  opens = opens_on setting one (record before { current = after.current }) after raises.1 low
      is.count refl is.switches (λ s there. boots s there ∙ sym (same s there))
      (bounded setting two two_have)

  retires : (refined_acts_written two (acts.controller_collect_acts before after) ≡ machine_retired_items setting two)
      × AreMarksRefined setting (two ++ machine_retired_items setting two) after
  retires = retires_on setting two before after opens.1
      (is.retired ∙ retires_same setting two (record after { retired = before.retired }) opens.1)
      (behind setting two two_have) (λ s there. (opens.1.each s there).boot)
