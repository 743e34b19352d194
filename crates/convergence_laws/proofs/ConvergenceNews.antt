-- At the end of each step what a switch has each neighbour has as new, or was sent.
use Rattle.std.proofs.Common.{[], ◌&&◌, ◌++◌, ◌+◌, ◌==◌, ◌∙◌, ◌∷◌, ◌≡◌, ◌≤◌, ◌⊎◌, Bool, IsFalse, IsTrue, List, ap, append_assoc, arith, eq-eqb, eqb-true, false, inl, inr, map, max, min, not, refl, subst, sym, true, ℕ, rules}
use Rattle.base.proofs.Exports.{beq}
use Rattle.update_machine.specs.Exports.{Advert, JournalItemsHaveCauses, Item, MachineLinksKeep, Setting, Step, journal_boot_of, journal_crash_items, journal_usable_links_changed, heard, machine_hello_of, is_link_up_in_journal, is_up, journal_items_then, journal_link_changes, machine_link_items, near, journal_next_message, nothing, own_advert, journal_packets_at, machine_restart_items, serves}
use Rattle.base.specs.Exports.{has}
use Rattle.net_file.specs.Exports.{IsNet}
use Rattle.update_machine.proofs.Exports.{last_given_append, links_keep, near_same, near_stays}
use Rattle.control_laws.proofs.Exports.{Control, IsControl, IsKnown, IsWork, Work, boot_more, have_weaker, heard_more, losts_have, losts_keep, restart_cases, row_first, serving_more, up_more}
use Rattle.convergence_laws.proofs.ConvergenceLinkChanges.{IsOwed, link_news, pay_links, sends_still}
use Rattle.convergence_laws.proofs.ConvergenceAdverts.{HaveNews, IsHad, IsStill, given_grows, stills_news}
use Rattle.convergence_laws.proofs.ConvergenceMessages.{next_grows}

abbrev pub Still : List Item → List Item → Type 0
Still journal items = JournalItemsHaveCauses IsStill journal items

-- nobody owes anything
abbrev pub Spread : Setting → ℕ → List Item → Type 0
Spread setting since journal = HaveNews setting since (λ s neighbour advert. ⊥) journal

pub still_spread : {since : ℕ} (setting : Setting) (journal items : List Item) → Still journal items
    → Spread setting since journal → Spread setting since (journal ++ items)
still_spread setting journal items still have = stills_news setting _ journal items still have

-- ---- blocks

pub work_is_still : (setting : Setting) (before : List Item) (next : Item)
    → IsWork setting before next → IsStill before next
work_is_still setting before next is = search rules

pub work_still : (setting : Setting) (journal items : List Item) → Work setting journal items
    → Still journal items
work_still setting journal items work = have_weaker _ _ (work_is_still setting) journal items work

pub control_is_still : (before : List Item) (next : Item) → IsControl before next → IsStill before next
control_is_still before next is = search rules

pub control_still : (journal items : List Item) → Control journal items → Still journal items
control_still = have_weaker IsControl IsStill control_is_still

-- ---- links and switches

pub row_near : (setting : Setting) (before : List Item) (row : ℕ) (step : Step) (s : ℕ)
    → near setting (before ++ Item.Row row step ∷ []) s ≡ near setting before s
row_near setting before row step s = near_stays setting s before (Item.Row row step ∷ []) (refl, tt)

pub link_spread : {since : ℕ} (setting : Setting) (before : List Item) (row : ℕ) (step : Step)
    (one two : ℕ) (up : Bool) → IsNet setting.net
    → let here = before ++ Item.Row row step ∷ [] in
    since ≤ journal_next_message here → IsKnown here → Spread setting since here
    → Spread setting since (here ++ machine_link_items setting before one two up here)
unfolding machine_link_items
link_spread {since = since} setting before row step one two up net late known have =
    by_test (beq (is_link_up_in_journal before one two) up)
  where
    here : List Item
    here = before ++ Item.Row row step ∷ []

    next : Item
    next = Item.LinkIs (min one two) (max one two) up

    now : List Item
    now = here ++ next ∷ []

    by_test : (b : Bool) → Spread setting since (here ++ elim b [
      | true ↦ nothing
      | false ↦ journal_items_then (next ∷ []) (journal_link_changes setting before) here
    ])
    by_test true = still_spread setting here nothing (tt, tt) have
    by_test false = rw (append_assoc here (next ∷ []) (journal_link_changes setting before now)) at
        (pay_links setting before now net (omega (arith, late, next_grows here (next ∷ [])))
        (link_news setting before here next (row_near setting before row step)
        (record { first = tt; second = row_first before row step }) refl known have))

-- what is owed is so behind the packets that are lost too
owed_later : (setting : Setting) (before now : List Item) (packets : List ℕ) (s neighbour : ℕ)
    (advert : Advert) → IsOwed setting before now s neighbour advert
    → IsOwed setting before (now ++ map Item.Lost packets) s neighbour advert
owed_later setting before now packets s neighbour advert owed = record {
  changed = by_changed (is_up now s) (near setting now s) owed.changed up (keeps.near s);
  told = subst (λ n. 1 ≤ n) (sym (keeps.seq s)) owed.told;
  had = by_had owed.had;
  which = by_which owed.which;
} where
  after : List Item
  after = now ++ map Item.Lost packets

  keeps : MachineLinksKeep setting now after
  keeps = links_keep setting now (map Item.Lost packets)
      (losts_have _ (λ before i. refl) packets now)

  up : is_up after s ≡ is_up now s
  up = losts_keep _ (λ journal i. up_more journal (Item.Lost i) s) packets now

  boot : journal_boot_of after s ≡ journal_boot_of now s
  boot = losts_keep _ (λ journal i. boot_more journal (Item.Lost i) s) packets now

  same : heard after s ≡ heard now s
  same = losts_keep _ (λ journal i. heard_more journal (Item.Lost i) s) packets now

  by_changed : (up : Bool) (mask : ℕ) → (up && not (near setting before s == mask)) ≡ true
      → is_up after s ≡ up → near setting after s ≡ mask
      → IsTrue (journal_usable_links_changed setting before after s)
  by_changed up mask changed same links = rw (same, links) changed

  by_had : IsHad setting now s advert → IsHad setting after s advert
  by_had (inl own) = inl (own ∙ sym (keeps.advert s))
  by_had (inr of) = inr (record {
    other = of.other;
    small = of.small;
    given = given_grows setting now after s advert up boot (λ body is. rw same is) of.given;
  })

  by_which : (advert ≡ own_advert setting now s) ⊎ IsFalse (has (near setting before s) neighbour)
      → (advert ≡ own_advert setting after s) ⊎ IsFalse (has (near setting before s) neighbour)
  by_which (inl own) = inl (own ∙ sym (keeps.advert s))
  by_which (inr new) = inr new

-- what is owed in one way is owed in another
pub owed_as : {since : ℕ} (setting : Setting) (One Other : ℕ → ℕ → Advert → Type 0)
    (journal : List Item)
    → ((s neighbour : ℕ) (advert : Advert) → One s neighbour advert → Other s neighbour advert)
    → HaveNews setting since One journal → HaveNews setting since Other journal
owed_as setting One Other journal as_other have = search rules

pub crash_spread : {since : ℕ} (setting : Setting) (before : List Item) (row : ℕ) (step : Step)
    (s : ℕ) → IsNet setting.net → let here = before ++ Item.Row row step ∷ [] in
    since ≤ journal_next_message here → IsKnown here → Spread setting since here
    → Spread setting since (here ++ journal_crash_items setting before s here)
unfolding journal_crash_items
crash_spread {since = since} setting before row step s net late known have = by_up (is_up before s) refl
  where
    here : List Item
    here = before ++ Item.Row row step ∷ []

    next : Item
    next = Item.Down s

    packets : List ℕ
    packets = journal_packets_at before s

    losts : List Item
    losts = map Item.Lost packets

    now : List Item
    now = here ++ next ∷ []

    later : since ≤ journal_next_message (now ++ losts)
    later = omega (arith, late, next_grows here (next ∷ []), next_grows now losts)

    down : is_up before s ≡ true → Spread setting since
        ((now ++ losts) ++ journal_link_changes setting before (now ++ losts))
    down up = pay_links setting before (now ++ losts) net later
        (owed_as setting (IsOwed setting before now) (IsOwed setting before (now ++ losts))
        (now ++ losts) (owed_later setting before now packets) (stills_news setting
        (IsOwed setting before now) now losts (losts_have IsStill (λ journal i. tt) packets now)
        (link_news setting before here next (row_near setting before row step) (record {
          first = up_more before (Item.Row row step) s ∙ up;
          second = row_first before row step;
        }) refl known have)))

    same : now ++ losts ≡ here ++ (next ∷ losts)
    same = append_assoc here (next ∷ []) losts

    by_up : (b : Bool) → is_up before s ≡ b → Spread setting since (here ++ elim b [
      | false ↦ nothing
      | true ↦ journal_items_then (next ∷ losts) (journal_link_changes setting before) here
    ])
    by_up false e = still_spread setting here nothing (tt, tt) have
    by_up true e = subst (Spread setting since) (append_assoc here
        (next ∷ losts) (journal_link_changes setting before (here ++ (next ∷ losts)))) (rw same at (down e))

booted_link : (here : List Item) (s boot one other : ℕ)
    → is_link_up_in_journal (here ++ Item.Booted s boot ∷ []) one other ≡ is_link_up_in_journal here one other
unfolding is_link_up_in_journal
booted_link here s boot one other = search (rules, last_given_append)

-- a switch that began a boot has no links yet, and had none
pub restart_spread : {since : ℕ} (setting : Setting) (before : List Item) (row : ℕ)
    (step : Step) (s : ℕ) → let here = before ++ Item.Row row step ∷ [] in
    IsKnown here → Spread setting since here
    → Spread setting since (here ++ machine_restart_items s here)
restart_spread {since = since} setting before row step s known have =
    restart_cases (Spread setting since) s here (still_spread setting here nothing (tt, tt) have)
    (λ down. still_spread setting now _ (sends_still now (machine_hello_of now s ∷ [])) (booted down))
  where
    here : List Item
    here = before ++ Item.Row row step ∷ []

    next : Item
    next = Item.Booted s (journal_boot_of here s + 1)

    now : List Item
    now = here ++ next ∷ []

    idle : is_up here s ≡ false → serves here s ≡ false
    idle down = by_serving (serves here s) refl where
      by_serving : (b : Bool) → serves here s ≡ b → serves here s ≡ false
      by_serving false e = e
      by_serving true e = let clash : false ≡ true = sym down ∙ (known.serving s).up e in absurd cc

    serving_same : is_up here s ≡ false → (t : ℕ) → serves now t ≡ serves here t
    serving_same down t = by_test (s == t) refl where
      by_test : (b : Bool) → (s == t) ≡ b → serves now t ≡ serves here t
      by_test true e = let none : serves now t ≡ false = rw (serving_more here next t, e) refl in
          none ∙ sym (idle down) ∙ ap (serves here) (eqb-true s t e)
      by_test false e = rw (serving_more here next t, e) refl

    links_now : is_up here s ≡ false → (t : ℕ) → near setting now t ≡ near setting before t
    links_now down t = near_same setting here now (serving_same down)
        (λ one other. booted_link here s _ one other) t ∙ row_near setting before row step t

    none : is_up here s ≡ false → (t neighbour : ℕ) (advert : Advert)
        → IsOwed setting before now t neighbour advert → ⊥
    none down t neighbour advert owed =
        by_changed (is_up now t) (near setting now t) owed.changed (links_now down t)
      where
        by_changed : (up : Bool) (mask : ℕ) → (up && not (near setting before t == mask)) ≡ true
            → mask ≡ near setting before t → ⊥
        by_changed true mask changed same =
            absurd (cc (sym (ap not (eq-eqb (near setting before t) mask (sym same))) ∙ changed))
        by_changed false mask changed same = absurd cc

    booted : is_up here s ≡ false → Spread setting since now
    booted down = owed_as _ _ _ now (none down) (link_news _ _ _ _ (row_near _ _ row step) (record {
      first = record { down = down; next = refl };
      second = row_first before row step;
    }) refl known have)
