-- How far boots and the numbers of own adverts rise with the messages that are sent.
use Rattle.std.proofs.Common.{[], if◌then◌else◌, ◌&&◌, ◌*◌, ◌++◌, ◌+◌, ◌<◌, ◌==◌, ◌^◌, ◌∙◌, ◌∷◌, ◌≡◌, ◌≤◌, All, Bool, List, None, Some, ap, append_assoc, arith, cond, count_by, eqb-true, false, filter, inl, inr, length, map, ne_eqb, not, refl, subst, suc, sum_by, sym, true, unwrap_or, zero, ℕ}
use Rattle.base.proofs.Exports.{All-cons, All-head, All-nil, All-tail, All-weaker, get_or-le-sum_by, get_or-range_with_len, given_some, has_least, length-flat_map, length-map, length-range_with_len, mask_of_lt, range_with_len, sum_by-cons, sum_filter}
use Rattle.update_machine.specs.Exports.{JournalItemsHaveCauses, Item, MachineLinksKeep, Message, NoMachineItemConcerns, Setting, MachineStepItems, MachineStepOfRow, machine_advert_to, journal_adverts_known, journal_after_steps, journal_boot_of, machine_item_changes_steps, machine_item_concerns_links, journal_step_changes_links, journal_usable_links_changed, journal_held_adverts, is_machine_sending_item, is_up, journal_link_changes, machine_messages_of, machine_messages_over_link, near, own_advert, journal_own_seq, piece, journal_steps_in, machine_switches_of, machine_usable_links, machine_steps_with_item}
use Rattle.failover.specs.Exports.{held_advert}
use Rattle.base.specs.Exports.{has, least_in_number_set, switches}
use Rattle.net_file.specs.Exports.{IsNet, are_linked_in_net}
use Rattle.net_file.proofs.NetFileRowPlaces.{links}
use Rattle.update_machine.proofs.Exports.{count_of_append, folded_append, have_append, known_link_laws, links_keep, start_laws}
use Rattle.control_laws.specs.Exports.{HasControlItemCause}
use Rattle.control_laws.proofs.ControlFactsGrown.{AreKept, FromCauses, boot_more, boot_rises, from_causes, up_more}
use Rattle.control_laws.proofs.ControlPieceCauses.{pieces_have}
use Rattle.control_laws.proofs.ControlSaidToController.{ChangedNoLinks}
use Rattle.control_laws.proofs.ControlNetLinks.{near_linked}
use Rattle.control_laws.proofs.ControlOwnAdverts.{AdvertGoesOn, IsNextAdvert, advert_on, same_boot, same_near, same_seq, seq_is}
use Rattle.control_laws.proofs.ControlStampingSwitches.{sends_silent}
use Rattle.control_laws.proofs.ControlAllAdverts.{row_first}
use Rattle.control_laws.proofs.ControlMessageCounts.{sent}
use Rattle.control_laws.proofs.ControlLinkPieces.{IsLinkPiece, OwnAfter}
use Rattle.control_laws.proofs.ControlLinkSends.{all_adverts_sent, once}
use Rattle.control_laws.proofs.ControlPieceKinds.{IsBootPiece, IsQuietPiece, PieceKind, link_changes_few, piece_kind}

-- ---- steps began in past boots

abbrev pub Began : ℕ → ℕ → List MachineStepItems → Type 0
Began s boot steps = All (λ (step : MachineStepItems). journal_boot_of step.before s ≤ boot) steps

-- no step began in a boot of the switch that is to come
pub record StepsArePast (journal : List Item) : Type 0 where
  pub past : (s : ℕ) → Began s (journal_boot_of journal s) (journal_steps_in journal)

began_with : (s boot : ℕ) (steps : List MachineStepItems) (next : Item) → Began s boot steps
    → Began s boot (machine_steps_with_item steps next)
began_with s boot [] next began = began
began_with s boot (newest ∷ steps) next began =
    All-cons (λ (step : MachineStepItems). journal_boot_of step.before s ≤ boot)
    (record newest { items = newest.items ++ next ∷ [] }) steps
    (All-head (λ (step : MachineStepItems). journal_boot_of step.before s ≤ boot) newest steps began)
    (All-tail (λ (step : MachineStepItems). journal_boot_of step.before s ≤ boot) newest steps began)

began_more : (s boot : ℕ) (before : List Item) (steps : List MachineStepItems) (next : Item)
    → journal_boot_of before s ≤ boot → Began s boot steps → Began s boot (machine_item_changes_steps before steps next)
began_more s boot before steps (Item.Row row step) now began =
    All-cons (λ (one : MachineStepItems). journal_boot_of one.before s ≤ boot)
    (record { before = before; items = Item.Row row step ∷ [] }) steps now began
began_more s boot before steps next now began = began_with s boot steps next began

pub began_on : (s boot : ℕ) (before : List Item) (next : Item) → journal_boot_of before s ≤ boot
    → Began s boot (journal_steps_in before) → Began s boot (journal_steps_in (before ++ next ∷ []))
unfolding journal_steps_in
began_on s boot before next now began = rw (folded_append machine_item_changes_steps [] before (next ∷ []))
    (began_more s boot before (journal_steps_in before) next now began)

past_on : (setting : Setting) → AreKept (HasControlItemCause setting) StepsArePast
past_on setting before next cause was = record {
  past = λ s. let rises = boot_rises setting before next s cause in
      began_on s (journal_boot_of (before ++ next ∷ []) s) before next rises
      (All-weaker (λ (step : MachineStepItems). journal_boot_of step.before s ≤ journal_boot_of before s)
      (λ (step : MachineStepItems). journal_boot_of step.before s ≤ journal_boot_of (before ++ next ∷ []) s)
      (λ step below. omega (arith, below, rises)) (journal_steps_in before) (was.past s));
}

past_at_first : StepsArePast []
unfolding journal_steps_in
past_at_first = record {
  past = λ s. All-nil (λ (step : MachineStepItems). journal_boot_of step.before s ≤ journal_boot_of [] s);
}

pub steps_past : FromCauses (λ setting. StepsArePast)
steps_past = from_causes (λ setting. StepsArePast) past_on (λ setting. past_at_first)

-- so none of them counts in a new boot
pub none_counted : (setting : Setting) (s old boot : ℕ) (steps : List MachineStepItems) → old < boot
    → Began s old steps → count_by (journal_step_changes_links setting s boot) steps ≡ 0
none_counted setting s old boot [] below began = refl
none_counted setting s old boot (step ∷ steps) below began =
    let first = All-head (λ (one : MachineStepItems). journal_boot_of one.before s ≤ old) step steps began in
    let here : journal_step_changes_links setting s boot step ≡ false =
    ap (λ b. b && not (near setting step.before s == near setting (step.before ++ step.items) s))
    (ne_eqb (journal_boot_of step.before s) boot (λ same. absurd (omega (arith, same, first, below)))) in
    sum_by-cons (λ x. cond (journal_step_changes_links setting s boot x) 1 0) step steps
    ∙ ap (λ b. cond b 1 0 + count_by (journal_step_changes_links setting s boot) steps) here
    ∙ omega (
      arith,
      none_counted setting s old boot steps below
          (All-tail (λ (one : MachineStepItems). journal_boot_of one.before s ≤ old) step steps began),
    )

-- ---- what is kept, step by step

-- each boot but the first one took a message, and so did each two numbers of an own advert: of one
-- of them nobody may have been told
pub record FewNumbers (setting : Setting) (journal : List Item) : Type 0 where
  pub boots : (s : ℕ) → journal_boot_of journal s ≤ sent journal + 1
  pub seqs : (s : ℕ) → s < length setting.net.switches
      → journal_own_seq setting journal s ≤ 2 * sent journal + 1 + once (near setting journal s == 0)

pub sent_both : (before items : List Item) → sent (before ++ items) ≡ sent before + sent items
sent_both before items = count_of_append is_machine_sending_item before items

pub at_most_one : (b : Bool) → once b ≤ 1
at_most_one true = omega arith
at_most_one false = omega arith

quiet_few : (setting : Setting) (before items : List Item) → IsQuietPiece setting before items
    → FewNumbers setting before → FewNumbers setting (before ++ items)
quiet_few setting before items quiet few =
    let keep = links_keep setting before items quiet.none in record {
      boots = λ s. omega (
        arith,
        sent_both before items,
        same_boot setting (before ++ items) before s (keep.advert s),
        few.boots s,
      );
      seqs = λ s there. omega (
        arith,
        sent_both before items,
        keep.seq s,
        ap (λ n. once (n == 0)) (keep.near s),
        few.seqs s there,
      );
    }

-- ---- a switch whose links changed sends adverts if it can reach another one

-- one of a range that passes a test counts
at_least : (f : ℕ → ℕ) (test : ℕ → Bool) (n x : ℕ) → x < n → test x ≡ true
    → f x ≤ sum_by f (filter test (range_with_len 0 n))
at_least f test n x there is = let term : ℕ → ℕ = λ y. cond (test y) (f y) 0 in
    omega (
      arith,
      (ap term (get_or-range_with_len 0 n x 0 there ∙ omega arith) ∙ ap (λ b. cond b (f x) 0) is),
      get_or-le-sum_by term (range_with_len 0 n) x 0 (omega (arith, length-range_with_len)),
      sum_filter f test (range_with_len 0 n),
    )

-- it holds its own advert
holds_own : (setting : Setting) (now : List Item) (s : ℕ) → s < 64
    → 1 ≤ journal_own_seq setting now s → 1 ≤ length (journal_held_adverts setting now s)
unfolding journal_held_adverts switches own_advert
holds_own setting now s small told = given_some (held_advert (journal_adverts_known setting now s)) 0 64 s
    (own_advert setting now s) (omega arith) small
    (known_link_laws.own setting now s small ∙ by_seq (journal_own_seq setting now s == 0) refl)
  where
    by_seq : (b : Bool) → (journal_own_seq setting now s == 0) ≡ b
        → (if b then None else Some (own_advert setting now s)) ≡ Some (own_advert setting now s)
    by_seq true e = absurd (omega (arith, eqb-true (journal_own_seq setting now s) 0 e, told))
    by_seq false e = refl

over_some : (setting : Setting) (before now : List Item) (s k : ℕ)
    → 1 ≤ length (journal_held_adverts setting now s) → 1 ≤ length (machine_messages_over_link setting before now s k)
over_some setting before now s k holds = by_link (has (near setting before s) k) where
  by_link : (old : Bool) → 1 ≤ length {A = Message} (elim old [
    | true ↦ machine_advert_to k (own_advert setting now s) ∷ []
    | false ↦ map (machine_advert_to k) (journal_held_adverts setting now s)
  ])
  by_link true = omega arith
  by_link false = omega (arith, holds, length-map (journal_held_adverts setting now s) (machine_advert_to k))

near_small : (setting : Setting) (journal : List Item) (s : ℕ) → near setting journal s < 2 ^ 64
unfolding near
near_small setting journal s = mask_of_lt (are_linked_in_net (machine_usable_links setting journal) s)

-- a mask that isn't 0 has a switch of the network
has_neighbour : (setting : Setting) (now : List Item) (s : ℕ) → IsNet setting.net
    → (near setting now s == 0) ≡ false
    → (k : ℕ) × (k < length setting.net.switches) × (has (near setting now s) k ≡ true)
has_neighbour setting now s net some =
    let mask : ℕ = near setting now s in
    let k : ℕ = least_in_number_set mask in
    let above : 0 < mask = positive mask some in
    let has_it : has mask k ≡ true = has_least mask above (near_small setting now s) in
    (k, links.below setting.net s k net (near_linked setting now s k has_it), has_it)
  where
    positive : (n : ℕ) → (n == 0) ≡ false → 0 < n
    positive zero is = absurd cc
    positive (suc n) is = omega arith

tells_some : (setting : Setting) (before now : List Item) (s : ℕ) → IsNet setting.net
    → s < length setting.net.switches → is_up now s ≡ true
    → (near setting before s == near setting now s) ≡ false → 1 ≤ journal_own_seq setting now s
    → (near setting now s == 0) ≡ false → 1 ≤ length (all_adverts_sent setting before now)
tells_some setting before now s net there up changed told some =
    let neighbour = has_neighbour setting now s net some in
    let k : ℕ = neighbour.0 in
    let count : ℕ = length setting.net.switches in
    let small : s < 64 = omega (arith, there, net.few_switches) in
    omega (
      arith,
      length-flat_map (machine_messages_of setting before now)
          (filter (journal_usable_links_changed setting before now) (machine_switches_of setting)),
      at_least (λ x. length (machine_messages_of setting before now x)) (journal_usable_links_changed setting before now)
          count s there
          (ap (λ b. b && not (near setting before s == near setting now s)) up ∙ ap not changed),
      length-flat_map (machine_messages_over_link setting before now s)
          (filter (has (near setting now s)) (machine_switches_of setting)),
      at_least (λ x. length (machine_messages_over_link setting before now s x)) (has (near setting now s))
          count k neighbour.1 neighbour.2,
      over_some setting before now s k (holds_own setting now s small told),
    )

-- ---- links that change

pub down_none : (setting : Setting) (now : List Item) (s : ℕ) → is_up now s ≡ false
    → journal_own_seq setting now s ≡ 0
unfolding journal_own_seq
down_none setting now s down = rw (down, journal_own_seq) refl

changed_few : (setting : Setting) (before now : List Item) (s told : ℕ) → IsNet setting.net
    → s < length setting.net.switches → OwnAfter setting before now s
    → journal_own_seq setting before s ≤ 2 * told + 1 + once (near setting before s == 0)
    → journal_own_seq setting now s
    ≤ 2 * (told + length (all_adverts_sent setting before now)) + 1 + once (near setting now s == 0)
changed_few setting before now s told net there after few = by_up (is_up now s) refl where
  by_mask : is_up now s ≡ true → IsNextAdvert setting before now s
      → (none : Bool) → (near setting now s == 0) ≡ none → journal_own_seq setting now s
      ≤ 2 * (told + length (all_adverts_sent setting before now)) + 1 + once none
  by_mask up next true e =
      let zero_now : near setting now s ≡ 0 = eqb-true (near setting now s) 0 e in
      let some = ap once (ap (λ n. near setting before s == n) (sym zero_now) ∙ next.changed) in
      omega (arith, next.seq, few, some)
  by_mask up next false e = omega (
    arith,
    next.seq,
    few,
    at_most_one (near setting before s == 0),
    tells_some setting before now s net there up next.changed (omega (arith, next.seq)) e,
  )

  by_own : is_up now s ≡ true → AdvertGoesOn setting before now s
      → journal_own_seq setting now s ≤ 2 * (told + length (all_adverts_sent setting before now))
      + 1 + once (near setting now s == 0)
  by_own up (inl same) =
      omega (arith, same_seq, ap (λ n. once (n == 0)) (same_near setting now before s same))
  by_own up (inr next) = by_mask up next (near setting now s == 0) refl

  by_up : (up : Bool) → is_up now s ≡ up → journal_own_seq setting now s ≤ 2 *
      (told + length (all_adverts_sent setting before now)) + 1 + once (near setting now s == 0)
  by_up true e = by_own e (after.own e)
  by_up false e = omega (arith, down_none setting now s e)

changes_silent : (setting : Setting) (before now : List Item)
    → NoMachineItemConcerns machine_item_concerns_links now (journal_link_changes setting before now)
unfolding journal_link_changes
changes_silent setting before now = sends_silent now _

links_few : (setting : Setting) (before items : List Item) → IsNet setting.net
    → IsLinkPiece setting before items → FewNumbers setting before
    → FewNumbers setting (before ++ items)
links_few setting before items net piece few = subst (FewNumbers setting) (sym whole) (record {
  boots = λ s. omega (
    arith,
    sent_after,
    same_boot setting after now s (keep.advert s),
    (piece.own s).boot,
    few.boots s,
  );
  seqs = λ s there. omega (
    arith,
    sent_after,
    link_changes_few setting before now,
    keep.seq s,
    ap (λ n. once (n == 0)) (keep.near s),
    changed_few setting before now s (sent before) net there (piece.own s) (few.seqs s there),
  );
})
  where
    now : List Item
    now = piece.now

    messages : List Item
    messages = journal_link_changes setting before now

    after : List Item
    after = now ++ messages

    whole : before ++ items ≡ after
    whole = cc (piece.written, append_assoc before piece.changes messages, piece.is_now)

    keep : MachineLinksKeep setting now after
    keep = links_keep setting now messages (changes_silent setting before now)

    sent_after : sent after ≡ sent before + sent messages
    sent_after = omega (
      arith,
      sent_both now messages,
      ap sent piece.is_now,
      sent_both before piece.changes,
      piece.silent,
    )

-- ---- a boot

pub one_if : (b : Bool) → (if b then 1 else 0) ≤ 1
one_if true = omega arith
one_if false = omega arith

booted_boot : (here : List Item) (s t boot : ℕ) → boot ≡ journal_boot_of here t + 1
    → journal_boot_of (here ++ Item.Booted t boot ∷ []) s ≤ journal_boot_of here s + 1
booted_boot here s t boot next = rw (boot_more here (Item.Booted t boot) s) (by_test (t == s) refl)
  where
    by_test : (b : Bool) → (t == s) ≡ b
        → unwrap_or (if b then Some boot else None) (journal_boot_of here s) ≤ journal_boot_of here s + 1
    by_test true e = omega (arith, next, ap (journal_boot_of here) (eqb-true t s e))
    by_test false e = omega arith

-- in its new boot a switch told nothing yet; of another one at most the links changed
booted_seq : (setting : Setting) (here : List Item) (s t boot : ℕ) → ChangedNoLinks here
    → StepsArePast here → boot ≡ journal_boot_of here t + 1
    → journal_own_seq setting (here ++ Item.Booted t boot ∷ []) s ≤ journal_own_seq setting here s + 1
booted_seq setting here s t boot first past next = by_up (is_up booted s) refl where
  booted : List Item
  booted = here ++ Item.Booted t boot ∷ []

  new : is_up booted s ≡ true → (t == s) ≡ true
      → journal_own_seq setting booted s ≤ journal_own_seq setting here s + 1
  new up e =
      let own = boot_more here (Item.Booted t boot) s
      ∙ ap (λ (b : Bool). unwrap_or (if b then Some boot else None) (journal_boot_of here s)) e in
      omega (
        arith,
        seq_is setting booted s up,
        none_counted setting s (journal_boot_of here s) (journal_boot_of booted s) (journal_steps_in booted)
            (omega (arith, own, next, ap (journal_boot_of here) (eqb-true t s e)))
            (began_on s (journal_boot_of here s) here (Item.Booted t boot) (omega arith) (past.past s)),
        one_if (journal_boot_of booted s == 1),
      )

  other : is_up booted s ≡ true → (t == s) ≡ false
      → journal_own_seq setting booted s ≤ journal_own_seq setting here s + 1
  other up e =
      let was_up = sym (up_more here (Item.Booted t boot) s
      ∙ ap (λ (b : Bool). unwrap_or (if b then Some true else None) (is_up here s)) e) ∙ up in
      let same = boot_more here (Item.Booted t boot) s
      ∙ ap (λ (b : Bool). unwrap_or (if b then Some boot else None) (journal_boot_of here s)) e in
      elim (advert_on setting here (Item.Booted t boot) s first was_up up same) [
        | inl stays ↦ omega (arith, same_seq setting booted here s stays)
        | inr more ↦ omega (arith, more.seq)
      ]

  by_test : is_up booted s ≡ true → (b : Bool) → (t == s) ≡ b
      → journal_own_seq setting booted s ≤ journal_own_seq setting here s + 1
  by_test up true e = new up e
  by_test up false e = other up e

  by_up : (up : Bool) → is_up booted s ≡ up → journal_own_seq setting booted s ≤ journal_own_seq setting here s + 1
  by_up true e = by_test e (t == s) refl
  by_up false e = omega (arith, down_none setting booted s e)

boots_few : (setting : Setting) (before items : List Item)
    → JournalItemsHaveCauses (HasControlItemCause setting) [] before → IsBootPiece before items
    → FewNumbers setting before → FewNumbers setting (before ++ items)
boots_few setting before items have piece few = subst (FewNumbers setting) (sym whole) (record {
  boots = λ s. omega (
    arith,
    sent_after,
    same_boot setting (booted ++ piece.hello) booted s (keep.advert s),
    booted_boot here s piece.switch piece.boot piece.next,
    same_boot setting here before s (row_keeps.advert s),
    few.boots s,
  );
  seqs = λ s there. omega (
    arith,
    sent_after,
    keep.seq s,
    booted_seq setting here s piece.switch piece.boot (row_first before piece.row piece.step)
        (past_on setting before row tt (steps_past setting before have)) piece.next,
    row_keeps.seq s,
    few.seqs s there,
    at_most_one (near setting before s == 0),
  );
})
  where
    row : Item
    row = Item.Row piece.row piece.step

    next : Item
    next = Item.Booted piece.switch piece.boot

    here : List Item
    here = before ++ row ∷ []

    booted : List Item
    booted = here ++ next ∷ []

    whole : before ++ items ≡ booted ++ piece.hello
    whole = ap (λ xs. before ++ xs) piece.written ∙ sym (append_assoc here (next ∷ []) piece.hello
        ∙ append_assoc before (row ∷ []) (next ∷ piece.hello))

    keep : MachineLinksKeep setting booted (booted ++ piece.hello)
    keep = links_keep setting booted piece.hello piece.silent

    row_keeps : MachineLinksKeep setting before here
    row_keeps = links_keep setting before (row ∷ []) (refl, tt)

    sent_after : sent (booted ++ piece.hello) ≡ sent before + 1
    sent_after = omega
        (arith, sent_both, sent_both here (next ∷ []), sent_both before (row ∷ []), piece.told)

pub numbers_on : (setting : Setting) (before items : List Item) → IsNet setting.net
    → JournalItemsHaveCauses (HasControlItemCause setting) [] before → PieceKind setting before items
    → FewNumbers setting before → FewNumbers setting (before ++ items)
numbers_on setting before items net have (inl quiet) few = quiet_few setting before items quiet few
numbers_on setting before items net have (inr (inl piece)) few =
    links_few setting before items net piece few
numbers_on setting before items net have (inr (inr boots)) few =
    boots_few setting before items have boots few

-- ---- all steps

pub numbers_at_first : (setting : Setting) → FewNumbers setting []
numbers_at_first setting = record {
  boots = λ s. omega (arith, start_laws.boot s);
  seqs = λ s there. omega (arith, start_laws.seq setting s);
}

pub numbers_behind : (setting : Setting) → IsNet setting.net → (before : List Item)
    (steps : List MachineStepOfRow) → JournalItemsHaveCauses (HasControlItemCause setting) [] before
    → FewNumbers setting before → FewNumbers setting (journal_after_steps setting before steps)
numbers_behind setting net before [] have few = few
numbers_behind setting net before (next ∷ steps) have few =
    let items : List Item = piece setting before next.row next.step in
    numbers_behind setting net (before ++ items) steps
    (have_append (HasControlItemCause setting) [] before items have
    (pieces_have setting before next.row next.step))
    (numbers_on setting before items net have (piece_kind setting before next.row next.step) few)
