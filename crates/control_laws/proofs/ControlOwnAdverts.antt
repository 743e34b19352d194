-- How the own advert of a switch goes on while the switch is up in its boot.
use Rattle.std.proofs.Common.{[], ◌&&◌, ◌++◌, ◌+◌, ◌<◌, ◌==◌, ◌||◌, ◌∙◌, ◌∷◌, ◌≡◌, ◌≤◌, ◌⊎◌, Bool, IsTrue, List, ap, append_assoc, arith, cond, count_by, eq-eqb, eqb-true, false, if◌then◌else◌, inl, inr, nat_lt, not, refl, sym, true, ℕ, rules}
use Rattle.base.proofs.Exports.{All-weaker, nat_tests, sum_by-cons}
use Rattle.update_machine.specs.Exports.{Advert, JournalItemsHaveCauses, Item, MachineLinksKeep, Setting, MachineStepItems, journal_adverts_heard, journal_boot_of, machine_item_changes_steps, journal_step_changes_links, is_up, near, own_advert, journal_own_seq, journal_steps_in, machine_steps_with_item}
use Rattle.update_machine.proofs.Exports.{folded_append, links_keep, start_laws}
use Rattle.control_laws.proofs.ControlSaidToController.{ChangedNoLinks, HasLinkCause}
use Rattle.control_laws.specs.Exports.{AllControlAdverts, HasControlItemCause, IsNoNewerControlAdvert, ControlOwnAdvertsAreNewest}
use Rattle.control_laws.proofs.ControlFactsGrown.{boot_more, boot_rises, up_more}
use Rattle.control_laws.proofs.ControlAllAdverts.{HasBothCauses, IsAdvertFact, all_such, begun_with}

-- it has the next number, and other links
pub record IsNextAdvert (setting : Setting) (before after : List Item) (s : ℕ) : Type 0 where
  pub seq : journal_own_seq setting after s ≡ journal_own_seq setting before s + 1
  pub changed : (near setting before s == near setting after s) ≡ false

-- it stays as it is, or is the next one
abbrev pub AdvertGoesOn : Setting → List Item → List Item → ℕ → Type 0
AdvertGoesOn setting before after s = (own_advert setting after s ≡ own_advert setting before s)
    ⊎ IsNextAdvert setting before after s

-- ---- parts of the own advert

pub same_boot : (setting : Setting) (after before : List Item) (s : ℕ) → own_advert setting after s
    ≡ own_advert setting before s → journal_boot_of after s ≡ journal_boot_of before s
unfolding own_advert
same_boot setting after before s same = ap (λ advert. advert.boot) same

pub same_seq : (setting : Setting) (after before : List Item) (s : ℕ) → own_advert setting after s
    ≡ own_advert setting before s → journal_own_seq setting after s ≡ journal_own_seq setting before s
unfolding own_advert
same_seq setting after before s same = ap (λ advert. advert.seq) same

pub same_near : (setting : Setting) (after before : List Item) (s : ℕ) → own_advert setting after s
    ≡ own_advert setting before s → near setting after s ≡ near setting before s
unfolding own_advert
same_near setting after before s same = ap (λ advert. advert.up) same

same_advert : (setting : Setting) (after before : List Item) (s : ℕ)
    → journal_boot_of after s ≡ journal_boot_of before s → journal_own_seq setting after s ≡ journal_own_seq setting before s
    → near setting after s ≡ near setting before s
    → own_advert setting after s ≡ own_advert setting before s
unfolding own_advert
same_advert setting after before s boot seq links = rw (boot, seq, links) refl

-- ---- the number of a switch that is up

pub seq_is : (setting : Setting) (journal : List Item) (s : ℕ) → is_up journal s ≡ true
    → journal_own_seq setting journal s ≡ count_by (journal_step_changes_links setting s (journal_boot_of journal s))
    (journal_steps_in journal) + (if journal_boot_of journal s == 1 then 1 else 0)
unfolding journal_own_seq
seq_is setting journal s up = rw (up, journal_own_seq) refl

-- ---- an item that changes links

-- the step, with one more item
abbrev longer : MachineStepItems → Item → MachineStepItems
longer step next = record { before = step.before; items = step.items ++ next ∷ [] }

steps_longer : (before : List Item) (next : Item) (is : ChangedNoLinks before)
    → ((steps : List MachineStepItems) → machine_item_changes_steps before steps next ≡ machine_steps_with_item steps next)
    → journal_steps_in (before ++ next ∷ []) ≡ longer is.newest next ∷ is.earlier
unfolding journal_steps_in
steps_longer before next is no_row = search (rules, folded_append)

count_cons : (test : MachineStepItems → Bool) (step : MachineStepItems) (steps : List MachineStepItems)
    → count_by test (step ∷ steps) ≡ cond (test step) 1 0 + count_by test steps
count_cons test step steps = sum_by-cons (λ x. cond (test x) 1 0) step steps

never : (b : Bool) (x y : ℕ) → y ≡ x → (b && not (x == y)) ≡ false
never b x y same = search (rules, eq-eqb)

-- the links are as they were when the step began
links_first : (setting : Setting) (before : List Item) (s : ℕ) (is : ChangedNoLinks before)
    → own_advert setting before s ≡ own_advert setting is.newest.before s
links_first setting before s is = ap (λ journal. own_advert setting journal s) (sym is.ends)
    ∙ (links_keep setting is.newest.before is.newest.items is.none).advert s

-- so the step hadn't changed them, and has done so now if they are others
was_none : (setting : Setting) (before : List Item) (s boot : ℕ) (is : ChangedNoLinks before)
    → journal_step_changes_links setting s boot is.newest ≡ false
was_none setting before s boot is = never _ (near setting is.newest.before s) _
    ((links_keep setting is.newest.before is.newest.items is.none).near s)

now_changed : (setting : Setting) (before : List Item) (next : Item) (s : ℕ)
    (is : ChangedNoLinks before)
    → journal_step_changes_links setting s (journal_boot_of before s) (longer is.newest next)
    ≡ not (near setting before s == near setting (before ++ next ∷ []) s)
now_changed setting before next s is =
    search (rules, links_first, append_assoc, eq-eqb, same_boot, same_near)

counted : (setting : Setting) (before : List Item) (next : Item) (s : ℕ)
    (is : ChangedNoLinks before)
    → ((steps : List MachineStepItems) → machine_item_changes_steps before steps next ≡ machine_steps_with_item steps next)
    → (d : Bool) → (near setting before s == near setting (before ++ next ∷ []) s) ≡ d
    → count_by (journal_step_changes_links setting s (journal_boot_of before s)) (journal_steps_in (before ++ next ∷ []))
    ≡ count_by (journal_step_changes_links setting s (journal_boot_of before s)) (journal_steps_in before) + cond (not d) 1 0
counted setting before next s is no_row d e =
    let test : MachineStepItems → Bool = journal_step_changes_links setting s (journal_boot_of before s) in
    let after = ap (count_by test) (steps_longer before next is no_row)
    ∙ count_cons test _ is.earlier ∙ ap (λ b. cond b 1 0 + count_by test is.earlier)
    (now_changed setting before next s is ∙ ap not e) in
    let was = ap (count_by test) is.steps ∙ count_cons test is.newest is.earlier
    ∙ ap (λ b. cond b 1 0 + count_by test is.earlier) (was_none setting before s _ is) in
    turned (count_by test (journal_steps_in (before ++ next ∷ []))) (count_by test (journal_steps_in before))
    (cond (not d) 1 0) (count_by test is.earlier) after was
  where
    turned : (x y z w : ℕ) → x ≡ z + w → y ≡ 0 + w → x ≡ y + z
    turned x y z w after was = omega arith

one_more : (x y k f : ℕ) → x ≡ k + 1 + f → y ≡ k + f → x ≡ y + 1
one_more x y k f after was = omega arith

as_many : (x y k f : ℕ) → x ≡ k + 0 + f → y ≡ k + f → x ≡ y
as_many x y k f after was = omega arith

link_item_on : (setting : Setting) (before : List Item) (next : Item) (s : ℕ)
    → ChangedNoLinks before
    → ((steps : List MachineStepItems) → machine_item_changes_steps before steps next ≡ machine_steps_with_item steps next)
    → is_up before s ≡ true → is_up (before ++ next ∷ []) s ≡ true → journal_boot_of (before ++ next ∷ []) s
    ≡ journal_boot_of before s → AdvertGoesOn setting before (before ++ next ∷ []) s
link_item_on setting before next s is no_row was_up up boot = by_links _ refl where
  after : List Item
  after = before ++ next ∷ []

  seq_after : (d : Bool) → (near setting before s == near setting after s) ≡ d
      → journal_own_seq setting after s ≡ count_by (journal_step_changes_links setting s (journal_boot_of before s))
      (journal_steps_in before) + cond (not d) 1 0 + (if journal_boot_of before s == 1 then 1 else 0)
  seq_after d e = cc (seq_is _ after s up, boot, counted setting before next s is no_row d e)

  by_links : (d : Bool) → (near setting before s == near setting after s) ≡ d
      → AdvertGoesOn setting before after s
  by_links true e = inl (same_advert setting after before s boot
      (as_many (journal_own_seq setting after s) (journal_own_seq setting before s) _ (if journal_boot_of before s == 1
      then 1 else 0) (seq_after true e) (seq_is setting before s was_up))
      (sym (eqb-true (near setting before s) (near setting after s) e)))
  by_links false e = inr (record {
    seq = one_more (journal_own_seq setting after s) (journal_own_seq setting before s) _
        (if journal_boot_of before s == 1 then 1 else 0) (seq_after false e)
        (seq_is setting before s was_up);
    changed = e;
  })

-- ---- any item

pub advert_on : (setting : Setting) (before : List Item) (next : Item) (s : ℕ)
    → HasLinkCause setting before next → is_up before s ≡ true → is_up (before ++ next ∷ []) s
    ≡ true → journal_boot_of (before ++ next ∷ []) s ≡ journal_boot_of before s
    → AdvertGoesOn setting before (before ++ next ∷ []) s
advert_on setting before (Item.Down t) s cause was_up up boot =
    link_item_on setting before (Item.Down t) s cause (λ steps. refl) was_up up boot
advert_on setting before (Item.Booted t b) s cause was_up up boot =
    link_item_on setting before (Item.Booted t b) s cause (λ steps. refl) was_up up boot
advert_on setting before (Item.Opened t v) s cause was_up up boot =
    link_item_on setting before (Item.Opened t v) s cause (λ steps. refl) was_up up boot
advert_on setting before (Item.LinkIs one two on) s cause was_up up boot =
    link_item_on setting before (Item.LinkIs one two on) s cause (λ steps. refl) was_up up boot
advert_on setting before next s cause was_up up boot = inl ((links_keep _ _ _ (refl, tt)).advert s)

-- ---- no advert is newer than the own one of its origin

-- what is kept, item by item: the advert has no greater boot than its origin; one of the present
-- boot has no greater number than the own one, and is the own one if it has the same
pub record IsPastOwn (setting : Setting) (journal : List Item) (advert : Advert) : Type 0 where
  pub boot : advert.boot ≤ journal_boot_of journal advert.origin
  pub seq : IsTrue (is_up journal advert.origin) → advert.boot ≡ journal_boot_of journal advert.origin →
      advert.seq ≤ journal_own_seq setting journal advert.origin
  pub own : IsTrue (is_up journal advert.origin) → advert.boot ≡ journal_boot_of journal advert.origin →
      advert.seq ≡ journal_own_seq setting journal advert.origin →
      advert ≡ own_advert setting journal advert.origin

-- a switch that is up in the boot of before was up before
pub up_back : (setting : Setting) (before : List Item) (next : Item) (s : ℕ)
    → HasControlItemCause setting before next → IsTrue (is_up (before ++ next ∷ []) s)
    → journal_boot_of (before ++ next ∷ []) s ≡ journal_boot_of before s → IsTrue (is_up before s)
up_back setting before next s cause up same = search (rules, nat_tests, boot_more, up_more)

-- the own advert is as it was, or has the next number
pub own_on : (setting : Setting) (before : List Item) (next : Item) (s : ℕ)
    → HasBothCauses setting before next → IsTrue (is_up (before ++ next ∷ []) s)
    → journal_boot_of (before ++ next ∷ []) s ≡ journal_boot_of before s
    → AdvertGoesOn setting before (before ++ next ∷ []) s
own_on setting before next s both up same = advert_on setting before next s both.second
    (up_back setting before next s both.first up same) up same

record IsPast (setting : Setting) (before : List Item) (next : Item) (advert : Advert)
    : Type 0 where
  was_up : IsTrue (is_up before advert.origin)
  was : advert.boot ≡ journal_boot_of before advert.origin
  goes_on : AdvertGoesOn setting before (before ++ next ∷ []) advert.origin

-- an advert of the boot in which its origin still is
of_boot : (setting : Setting) (before : List Item) (next : Item) (advert : Advert)
    → HasBothCauses setting before next → IsPastOwn setting before advert
    → IsTrue (is_up (before ++ next ∷ []) advert.origin)
    → advert.boot ≡ journal_boot_of (before ++ next ∷ []) advert.origin → IsPast setting before next advert
of_boot setting before next advert both past up now =
    let rises = boot_rises setting before next advert.origin both.first in
    let below = past.boot in
    let same : journal_boot_of (before ++ next ∷ []) advert.origin ≡ journal_boot_of before advert.origin =
    omega arith in record {
      was_up = up_back setting before next advert.origin both.first up same;
      was = now ∙ same;
      goes_on = own_on setting before next advert.origin both up same;
    }

past_on : (setting : Setting) (before : List Item) (next : Item)
    → HasBothCauses setting before next → (advert : Advert) → IsPastOwn setting before advert
    → IsPastOwn setting (before ++ next ∷ []) advert
past_on setting before next both advert past = search (rules, boot_rises, of_boot, same_seq)

own_past : (setting : Setting) (journal : List Item) (s : ℕ)
    → IsPastOwn setting journal (own_advert setting journal s)
unfolding own_advert
own_past setting journal s = search rules

first_past : (setting : Setting) (origin : ℕ) → IsPastOwn setting [] (begun_with setting origin)
first_past setting origin = rw (start_laws.advert setting origin) at (own_past setting [] origin)

past_fact : (setting : Setting) → IsAdvertFact setting (IsPastOwn setting)
past_fact setting = search (rules, past_on, own_past, first_past)

-- ---- so the own one is newer, or the same

newer_by_boot : (b c x y : ℕ) → b < c → (nat_lt b c || ((b == c) && nat_lt x y)) ≡ true
newer_by_boot b c x y below = grind (arith, nat_tests)

newer_by_seq : (b c x y : ℕ) → b ≡ c → x < y → (nat_lt b c || ((b == c) && nat_lt x y)) ≡ true
newer_by_seq b c x y same below = grind (arith, nat_tests)

no_newer : (setting : Setting) (journal : List Item) (advert : Advert)
    → IsPastOwn setting journal advert → IsNoNewerControlAdvert setting journal advert
unfolding own_advert
no_newer setting journal advert past = search (rules, newer_by_boot, newer_by_seq)

pub own_newest : (setting : Setting) (journal : List Item)
    → JournalItemsHaveCauses (HasBothCauses setting) [] journal → ControlOwnAdvertsAreNewest setting journal
own_newest setting journal have =
    let past = all_such _ _ (past_fact setting) journal have (own_past setting journal) in record {
      sent = λ n s advert is. no_newer setting journal advert (past.sent n s advert is);
      heard = λ s. All-weaker (IsPastOwn setting journal) (IsNoNewerControlAdvert setting journal)
          (no_newer setting journal) (journal_adverts_heard journal s) (past.heard s);
      held = λ s origin advert small known. no_newer _ _ _ (past.held s origin advert small known);
      own = λ s. no_newer setting journal (own_advert setting journal s) (past.own s);
    }
