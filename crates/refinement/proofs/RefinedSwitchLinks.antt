-- What a change of its links makes of a switch.
use Rattle.std.proofs.Common.{[], ◌&&◌, ◌++◌, ◌+◌, ◌<◌, ◌==◌, ◌∙◌, ◌∷◌, ◌≡◌, ◌≤◌, ◌⊎◌, Bool, IsTrue, List, None, Option, Some, ap, arith, cond, count_by, eq-eqb, eqb-true, false, if◌then◌else◌, inl, inr, ne_eqb, not, option_map, refl, set, set-set, slice_get, sym, true, ℕ}
use Rattle.base.proofs.Exports.{set-replicate, sum_by-cons}
use Rattle.failover.specs.Exports.{no_adverts}
use Rattle.update_machine.specs.Exports.{Advert, CacheEntry, JournalItemsHaveCauses, Item, Message, NoMachineItemConcerns, Setting, Step, MachineStepItems, Tables, journal_boot_of, journal_cache_of, machine_item_concerns_calls, machine_item_concerns_known, machine_expire_items, journal_handled_count, journal_step_changes_links, journal_usable_links_changed, journal_held_adverts, is_up, near, journal_next_message, nothing, own_advert, journal_own_advert_sent, journal_own_seq, machine_send_items, machine_sent_items_from, journal_steps_in}
use Rattle.switch_core.specs.Exports.{SwitchValue, crashed_switch, switch_entry_expired, near_changed, switch_next_advert, restarted_switch}
use Rattle.switch_table.specs.Exports.{cache_after_clear}
use Rattle.update_machine.proofs.Exports.{calls_stay, start_laws, switch_keeps}
use Rattle.control_laws.specs.Exports.{HasControlItemCause}
use Rattle.control_laws.proofs.Exports.{began_on, boot_more, boot_rises, down_none, fact_on, none_counted, seq_is, steps_past, up_more}
use Rattle.refinement.specs.Exports.{RefinementLeavesSwitch, LinksRefine, LivesRefine, NoRefinedRows, refined_expired_by, refined_message_at, refined_relinked_switch, refined_switch_of}
use Rattle.refinement.proofs.RefinedHearing.{facts_expired, facts_kept, facts_more}
use Rattle.refinement.proofs.RefinedSwitchFacts.{SwitchFacts, by_facts, facts_of, filled, switch_by, switch_in, switch_is, told_by_facts}
use Rattle.refinement.proofs.RefinedSwitchSteps.{steps_more}

-- ---- a switch that goes down and one that boots have forgotten what they learnt

-- ---- what is forgotten

-- the facts of a switch that forgot what it learnt
abbrev blank : SwitchFacts → ℕ → Bool → ℕ → SwitchFacts
blank w boot up links = record {
  boot = boot;
  up = up;
  serving = false;
  bodies = [];
  cache = cache_after_clear w.cache;
  seq = 0;
  links = links;
  handled = w.handled;
}

none_set : (s : ℕ) → set no_adverts s None ≡ no_adverts
none_set s = set-replicate None 64 s

-- in a boot after its first it is as a crashed switch, except for the boot and whether it is up
forgets : (setting : Setting) (s : ℕ) (w : SwitchFacts) (boot : ℕ) (up : Bool) (links : ℕ)
    → switch_in setting s (blank w boot up links) false
    ≡ record (crashed_switch (switch_by setting s w)) { boot = boot; is_up = up }
forgets setting s w boot up links = ap (λ adverts. record (crashed_switch (switch_by setting s w)) {
  boot = boot;
  is_up = up;
  database = adverts;
}) (none_set s)

-- ---- a crash

pub crash_is : (setting : Setting) (journal : List Item) (s : ℕ) → refined_switch_of setting
    (journal ++ Item.Down s ∷ []) s ≡ crashed_switch (refined_switch_of setting journal s)
crash_is setting journal s =
    let next : Item = Item.Down s in
    let now : List Item = journal ++ next ∷ [] in
    let own : (s == s) ≡ true = eq-eqb s s refl in
    let up : is_up now s ≡ false = rw (up_more journal next s, own) refl in
    let facts : facts_of setting now s
    ≡ blank (facts_of setting journal s) (journal_boot_of journal s) false (near setting now s) =
    facts_more setting journal next s
    ∙ rw (own, down_none setting now s up, calls_stay s journal (next ∷ []) (refl, tt)) refl in
    by_facts setting now s _ facts
    ∙ forgets setting s (facts_of setting journal s) (journal_boot_of journal s) false (near setting now s)
    ∙ ap crashed_switch (sym (switch_is setting journal s))

-- ---- a boot

-- boots are counted from 1
first_boot : (setting : Setting) (journal : List Item)
    → JournalItemsHaveCauses (HasControlItemCause setting) [] journal → (s : ℕ) → 1 ≤ journal_boot_of journal s
first_boot setting journal have s = fact_on (HasControlItemCause setting) (λ js. 1 ≤ journal_boot_of js s)
    (λ before next cause one. omega (arith, one, boot_rises setting before next s cause)) [] journal
    have (omega (arith, start_laws.boot s))

pub restart_is : (setting : Setting) (journal : List Item) (s : ℕ)
    → JournalItemsHaveCauses (HasControlItemCause setting) [] journal
    → refined_switch_of setting (journal ++ Item.Booted s (journal_boot_of journal s + 1) ∷ []) s
    ≡ restarted_switch (refined_switch_of setting journal s)
restart_is setting journal s have =
    let next : Item = Item.Booted s (journal_boot_of journal s + 1) in
    let now : List Item = journal ++ next ∷ [] in
    let own : (s == s) ≡ true = eq-eqb s s refl in
    let boot : journal_boot_of now s ≡ journal_boot_of journal s + 1 = rw (boot_more journal next s, own) refl in
    let up : is_up now s ≡ true = rw (up_more journal next s, own) refl in
    let later : (journal_boot_of journal s + 1 == 1) ≡ false =
    ne_eqb (journal_boot_of journal s + 1) 1 (λ same. absurd (omega (
      arith,
      same,
      first_boot setting journal have s,
    ))) in
    let past = (steps_past setting journal have).past s in
    let below : journal_boot_of journal s < journal_boot_of now s = omega (arith, boot) in
    let seq : journal_own_seq setting now s ≡ 0 = seq_is setting now s up
    ∙ ap (λ b. count_by (journal_step_changes_links setting s (journal_boot_of now s)) (journal_steps_in now)
    + (if b then 1 else 0)) (ap (λ k. k == 1) boot ∙ later)
    ∙ ap (λ k. k + 0) (none_counted setting s (journal_boot_of journal s) (journal_boot_of now s) (journal_steps_in now)
    below (began_on s (journal_boot_of journal s) journal next (omega arith) past)) in
    let facts : facts_of setting now s
    ≡ blank (facts_of setting journal s) (journal_boot_of journal s + 1) true (near setting now s) =
    facts_more setting journal next s
    ∙ rw (own, seq, calls_stay s journal (next ∷ []) (refl, tt)) refl in
    by_facts setting now s _ facts
    ∙ ap (switch_in setting s (blank (facts_of setting journal s) (journal_boot_of journal s + 1) true
    (near setting now s))) later
    ∙ forgets setting s (facts_of setting journal s) (journal_boot_of journal s + 1) true
    (near setting now s)
    ∙ ap restarted_switch (sym (switch_is setting journal s))

-- ---- an expiry

pub expiry_is : (setting : Setting) (journal : List Item) (s place message : ℕ)
    → refined_switch_of setting (journal ++ Item.Expired s place message ∷ []) s
    ≡ switch_entry_expired (refined_switch_of setting journal s) place
expiry_is setting journal s place message =
    by_facts setting (journal ++ Item.Expired s place message ∷ []) s _
    (facts_expired setting journal s place message)
    ∙ ap (λ (switch : SwitchValue). switch_entry_expired switch place) (sym (switch_is setting journal s))

expires_as : (setting : Setting) (journal : List Item) (s place : ℕ)
    → machine_expire_items setting s place journal ≡ refined_expired_by s place (refined_message_at setting journal s place)
unfolding machine_expire_items refined_switch_of
expires_as setting journal s place = by_entry (slice_get (journal_cache_of setting journal s).entries place)
  where
    by_entry : (o : Option CacheEntry) → elim o [
      | None ↦ nothing
      | Some entry ↦ Item.Expired s place entry.message ∷ []
    ] ≡ refined_expired_by s place (option_map (λ entry. entry.message) o)
    by_entry None = refl
    by_entry (Some entry) = refl

pub lives_refine : LivesRefine
lives_refine = record {
  crash = crash_is;
  restart = λ setting journal s have. restart_is setting journal s have;
  expiry = expiry_is;
  expires = expires_as;
}

-- ---- switch link changes

-- ---- the number of the own advert

abbrev pub one_if : Bool → ℕ
one_if b = if b then 1 else 0

apart : (k c f : ℕ) → c + k + f ≡ k + f + c
apart k c f = omega arith

-- a step that changes its links counts once for a switch that is up in the same boot
pub seq_more : (setting : Setting) (before : List Item) (row s : ℕ) (step : Step)
    (items : List Item) → NoRefinedRows items
    → let now = before ++ Item.Row row step ∷ items in
    journal_boot_of now s ≡ journal_boot_of before s → is_up now s ≡ is_up before s
    → journal_own_seq setting now s
    ≡ journal_own_seq setting before s + one_if (journal_usable_links_changed setting before now s)
seq_more setting before row s step items none boot up = by_up (is_up before s) refl where
  now : List Item
  now = before ++ Item.Row row step ∷ items

  first : MachineStepItems
  first = record { before = before; items = Item.Row row step ∷ items }

  test : MachineStepItems → Bool
  test = journal_step_changes_links setting s (journal_boot_of before s)

  changed : Bool
  changed = not (near setting before s == near setting now s)

  first_counts : test first ≡ changed
  first_counts = ap (λ b. b && changed) (eq-eqb (journal_boot_of before s) (journal_boot_of before s) refl)

  counts : count_by test (journal_steps_in now) ≡ one_if changed + count_by test (journal_steps_in before)
  counts = ap (count_by test) (steps_more before row step items none)
      ∙ sum_by-cons (λ x. cond (test x) 1 0) first (journal_steps_in before)
      ∙ ap (λ b. cond b 1 0 + count_by test (journal_steps_in before)) first_counts

  by_up : (b : Bool) → is_up before s ≡ b → journal_own_seq setting now s
      ≡ journal_own_seq setting before s + one_if (is_up now s && changed)
  by_up false e = let down : is_up now s ≡ false = up ∙ e in
      rw down (down_none setting now s down ∙ ap (λ k. k + 0) (sym (down_none setting before s e)))
  by_up true e = let is : is_up now s ≡ true = up ∙ e in
      rw is (seq_is setting now s is
      ∙ ap (λ b. count_by (journal_step_changes_links setting s b) (journal_steps_in now) + one_if (b == 1)) boot
      ∙ ap (λ k. k + one_if (journal_boot_of before s == 1)) counts
      ∙ apart (count_by test (journal_steps_in before)) (one_if changed) (one_if (journal_boot_of before s == 1))
      ∙ ap (λ k. k + one_if changed) (sym (seq_is setting before s e)))

-- ---- the own advert in the record

is_told : (seq : ℕ) → (seq + 1 == 0) ≡ false
is_told seq = ne_eqb (seq + 1) 0 (λ same. absurd (omega (arith, same)))

-- the switch with the next number and these links, or as it was: where they didn't change, or where
-- it tells nothing
pub relinks : (s : ℕ) (w : SwitchFacts) (stamp mark : ℕ) (tables : List Tables)
    (others : List (Option Advert)) (links : ℕ) (changed : Bool)
    → (changed ≡ false → (links ≡ w.links) ⊎ (w.seq ≡ 0))
    → filled s (record w { seq = w.seq + one_if changed; links = links }) stamp mark tables others
    ≡ (if changed then near_changed (filled s w stamp mark tables others) links
    else filled s w stamp mark tables others)
relinks s w stamp mark tables others links true same =
    let own : Advert = told_by_facts s (record w { seq = w.seq + 1; links = links }) in
    ap (λ adverts. record (filled s w stamp mark tables others) {
      seq = w.seq + 1;
      database = adverts;
    })
    (ap (set others s) (ap (λ b. if b then None else Some own) (is_told w.seq))
    ∙ sym (set-set others s (journal_own_advert_sent (told_by_facts s w)) (Some own)))
relinks s w stamp mark tables others links false same = elim (same refl) [
  | inl links_same ↦ as_before (w.seq + 0) (omega arith) links_same
  | inr none ↦ untold (w.seq + 0) (omega (arith, none)) none
] where
  as_before : (seq : ℕ) → seq ≡ w.seq → links ≡ w.links
      → filled s (record w { seq = seq; links = links }) stamp mark tables others
      ≡ filled s w stamp mark tables others
  as_before seq e links_same = rw (e, links_same) refl

  untold : (seq : ℕ) → seq ≡ 0 → w.seq ≡ 0 → filled s (record w { seq = seq; links = links })
      stamp mark tables others ≡ filled s w stamp mark tables others
  untold seq e none = rw (e, none) refl

-- ---- a step that isn't the switch's own

facts_relinked : (setting : Setting) (s : ℕ) (before : List Item) (row : ℕ) (step : Step)
    (items : List Item) → RefinementLeavesSwitch s before row step items
    → let now = before ++ Item.Row row step ∷ items in
    let w = facts_of setting before s in
    facts_of setting now s
    ≡ record w {
      seq = w.seq + one_if (journal_usable_links_changed setting before now s);
      links = near setting now s;
    }
facts_relinked setting s before row step items leaves =
    let all : List Item = Item.Row row step ∷ items in
    let own = switch_keeps setting s before all leaves.apart in
    let serving = own.serving in
    let bodies = own.heard in
    let cache = own.cache in
    let seq = seq_more setting before row s step items leaves.in_step own.boot own.up in
    let handled : journal_handled_count (before ++ all) s ≡ journal_handled_count before s =
    calls_stay s before all leaves.calls in
    rw (seq, own.boot, own.up, serving, bodies, cache, handled) refl

-- where nothing changed, its links are the same, or it is down
pub unchanged : (setting : Setting) (before now : List Item) (s : ℕ)
    → is_up now s ≡ is_up before s → journal_usable_links_changed setting before now s ≡ false
    → (near setting now s ≡ near setting before s) ⊎ (journal_own_seq setting before s ≡ 0)
unchanged setting before now s up none = by_up (is_up now s) refl none where
  by_same : (b : Bool) → (near setting before s == near setting now s) ≡ b → not b ≡ false
      → near setting now s ≡ near setting before s
  by_same true e is = sym (eqb-true (near setting before s) (near setting now s) e)
  by_same false e is = absurd cc

  by_up : (b : Bool) → is_up now s ≡ b → (b && not (near setting before s == near setting now s))
      ≡ false → (near setting now s ≡ near setting before s) ⊎ (journal_own_seq setting before s ≡ 0)
  by_up true e is = inl (by_same (near setting before s == near setting now s) refl is)
  by_up false e is = inr (down_none setting before s (sym up ∙ e))

relink_is : (setting : Setting) (s : ℕ) (before : List Item) (row : ℕ) (step : Step)
    (items : List Item) → RefinementLeavesSwitch s before row step items
    → let now = before ++ Item.Row row step ∷ items in
    refined_switch_of setting now s ≡ refined_relinked_switch setting before now s (refined_switch_of setting before s)
relink_is setting s before row step items leaves =
    let now : List Item = before ++ Item.Row row step ∷ items in
    let w : SwitchFacts = facts_of setting before s in
    let own = switch_keeps setting s before (Item.Row row step ∷ items) leaves.apart in
    by_facts setting now s _ (facts_relinked setting s before row step items leaves)
    ∙ relinks s w _ _ _ _ (near setting now s) (journal_usable_links_changed setting before now s)
    (unchanged setting before now s own.up)
    ∙ ap (refined_relinked_switch setting before now s) (sym (switch_is setting before s))

advert_is : (setting : Setting) (s : ℕ) (before : List Item) (row : ℕ) (step : Step)
    (items : List Item) → RefinementLeavesSwitch s before row step items
    → let now = before ++ Item.Row row step ∷ items in
    IsTrue (journal_usable_links_changed setting before now s)
    → own_advert setting now s ≡ switch_next_advert (refined_switch_of setting before s) (near setting now s)
unfolding own_advert refined_switch_of
advert_is setting s before row step items leaves changes =
    let now : List Item = before ++ Item.Row row step ∷ items in
    let own = switch_keeps setting s before (Item.Row row step ∷ items) leaves.apart in
    let seq = seq_more setting before row s step items leaves.in_step own.boot own.up
    ∙ ap (λ b. journal_own_seq setting before s + one_if b) changes in
    rw (seq, own.boot) refl

-- ---- items that do nothing to it

pub kept_is : (setting : Setting) (s : ℕ) (before items : List Item)
    → NoMachineItemConcerns (machine_item_concerns_known s) before items → NoMachineItemConcerns (machine_item_concerns_calls s) before items
    → refined_switch_of setting (before ++ items) s ≡ refined_switch_of setting before s
kept_is setting s before items none calls =
    by_facts setting (before ++ items) s _ (facts_kept setting s before items none)
    ∙ ap (λ count. record (switch_by setting s (facts_of setting before s)) { handled = count })
    (calls_stay s before items calls) ∙ sym (switch_is setting before s)

-- messages concern no switch until they are delivered
sent_apart : (concerns : List Item → Item → Bool)
    → ((before : List Item) (n : ℕ) (message : Message) → concerns before (Item.Sent n message)
    ≡ false) → (messages : List Message) (before : List Item) (n : ℕ) → NoMachineItemConcerns concerns before
    (machine_sent_items_from n messages)
unfolding machine_sent_items_from
sent_apart concerns none [] before n = tt
sent_apart concerns none (message ∷ messages) before n = (
  none before n message,
  sent_apart concerns none messages (before ++ Item.Sent n message ∷ []) (n + 1),
)

pub links_refine : LinksRefine
unfolding journal_held_adverts refined_switch_of
links_refine = record {
  kept = kept_is;
  relinked = relink_is;
  advert = advert_is;
  held = λ setting journal s. refl;
  told = λ setting before now s. refl;
  sent = λ setting before messages s. kept_is setting s before (machine_send_items before messages)
      (sent_apart (machine_item_concerns_known s) (λ js n message. refl) messages before (journal_next_message before))
      (sent_apart (machine_item_concerns_calls s) (λ js n message. refl) messages before (journal_next_message before));
}
