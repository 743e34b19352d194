-- In a quiet journal a step makes a packet stuck only where it reaches no target.
use Rattle.std.proofs.Common.{[], ◌++◌, ◌<◌, ◌^◌, ◌||◌, ◌∙◌, ◌∷◌, ◌≡◌, ◌≢◌, ◌≤◌, ◌⊎◌, All, Bool, IsFalse, IsTrue, List, ap, arith, bit_or, false, get_or, get_or-set_other, get_or-set_same, inl, inr, length, length-set, max, min, refl, set, subst, sym, true, ℕ, rules}
use Rattle.base.proofs.Exports.{⊤, cases_eq, cases_lt, get_or_past, has-or, has-pow_other, has-zero}
use Rattle.base.specs.Exports.{has}
use Rattle.update_machine.specs.Exports.{Cause, Exit, JournalItemsHaveCauses, Header, Hop, Item, Leg, MachineLinksKeep, Packet, Seek, Setting, Step, journal_adverts_known, journal_boot_of, machine_item_changes_found, machine_item_concerns_links, machine_item_concerns_policies, journal_found_down, heard, machine_hop_items, is_up, near, machine_packet_items, piece, journal_plan_at, journal_route_from, machine_step_items, machine_targets_in, journal_leg_targets}
use Rattle.control_laws.proofs.Exports.{AreKept, IsWork, KnowsNoRoute, boot_more, fact_on, have_front, have_rest, have_weaker, heard_more, hop_work, packet_works, up_more}
use Rattle.failover.specs.Exports.{link_set_has, no_failover_links, with_failover_link}
use Rattle.failover.proofs.FailoverLinkSets.{link_set_has-none}
use Rattle.net_file.specs.Exports.{IsNet}
use Rattle.steps.specs.Exports.{StepSwitchExists}
use Rattle.update_machine.proofs.Exports.{folded_append, have_first, links_keep, policies_keep}
use Rattle.convergence_laws.specs.Exports.{AreConvergenceUnusableLinks, ConvergedGetStuckApart, ConvergenceReaches}
use Rattle.convergence_laws.proofs.ConvergenceLinkChanges.{near_back}
use Rattle.convergence_laws.proofs.ConvergedKnownLinks.{AreAgreed, agreed_converged}
use Rattle.convergence_laws.proofs.ConvergencePlainItems.{HasOthers, others_have}

-- ---- what packets' steps write: a packet is stuck only where its switch knows no route, and finds
-- down only links that aren't usable.

abbrev pub Walks : Setting → List Item → Item → Type 0
Walks setting before (Item.Stuck i s cause leg down) = KnowsNoRoute setting before i s leg down
Walks setting before (Item.FoundDown i one two) = IsFalse (has (near setting before one) two)
Walks setting before (Item.Delivered number) = ⊥
Walks setting before (Item.LinkIs one two up) = ⊥
Walks setting before (Item.Down s) = ⊥
Walks setting before (Item.Booted s boot) = ⊥
Walks setting before (Item.Opened s version) = ⊥
Walks setting before (Item.Submitted file version) = ⊥
Walks setting before _ = ⊤

abbrev pub Walk : Setting → List Item → List Item → Type 0
Walk setting journal items = JournalItemsHaveCauses (Walks setting) journal items

work_walks : (setting : Setting) (before : List Item) (next : Item) → IsWork setting before next
    → Walks setting before next
work_walks setting before next is = search rules

pub packet_walk : (setting : Setting) (i s : ℕ) (header : Header) (journal : List Item)
    → Walk setting journal (machine_packet_items setting i s header journal)
packet_walk setting i s header journal = packet_works _ _ (work_walks setting) i s header journal tt

pub hop_walk : (setting : Setting) (i : ℕ) (journal : List Item)
    → Walk setting journal (machine_hop_items setting i journal)
hop_walk setting i journal = have_weaker _ _ (work_walks setting) _ _ (hop_work setting i journal)

-- ---- converged stuck packets

-- ---- steps of other kinds make no packet stuck

abbrev IsNoEnd : List Item → Item → Type 0
IsNoEnd before (Item.Stuck i s cause leg down) = ⊥
IsNoEnd before _ = ⊤

abbrev NoEnd : List Item → List Item → Type 0
NoEnd journal items = JournalItemsHaveCauses IsNoEnd journal items

ends_none : HasOthers IsNoEnd
ends_none = search rules

-- ---- a set of links that were found down

-- a link of a set with one more is of the set, or that one
more_links : (down : List ℕ) (x y a b : ℕ) → IsTrue (link_set_has (with_failover_link down x y) a b)
    → IsTrue (link_set_has down a b) ⊎ ((min a b ≡ min x y) × (max a b ≡ max x y))
unfolding link_set_has with_failover_link
more_links down x y a b is = by_row (cases_eq (min a b) low) where
  low : ℕ
  low = min x y

  high : ℕ
  high = max x y

  row : ℕ
  row = bit_or (get_or down low 0) (2 ^ high)

  by_high : min a b ≡ low → (max a b ≡ high) ⊎ (max a b ≢ high) → IsTrue (has row (max a b))
      → IsTrue (has (get_or down (min a b) 0) (max a b)) ⊎ ((min a b ≡ low) × (max a b ≡ high))
  by_high same (inl top) here = inr (same, top)
  by_high same (inr apart) here = inl (rw same (by_or _ _ (has-pow_other high (max a b) apart)
      (sym (has-or (get_or down low 0) (2 ^ high) (max a b)) ∙ here)))
    where
      by_or : (p q : Bool) → q ≡ false → (p || q) ≡ true → p ≡ true
      by_or true q none is = refl
      by_or false q none is = let clash : false ≡ true = sym none ∙ is in absurd cc

  by_within : min a b ≡ low → (low < length down) ⊎ (length down ≤ low)
      → IsTrue (has (get_or down (min a b) 0) (max a b)) ⊎ ((min a b ≡ low) × (max a b ≡ high))
  by_within same (inl within) = by_high same (cases_eq (max a b) high)
      (rw (ap (λ k. get_or (set down low row) k 0) same ∙ get_or-set_same down low row 0 within)
      at is)
  by_within same (inr past) =
      let clash : false ≡ true = sym (has-zero (max a b))
      ∙ ap (λ mask. has mask (max a b)) (sym (get_or_past (set down low row) (min a b) 0
      (omega (arith, same, past, length-set down low row)))) ∙ is in
      absurd cc

  by_row : (min a b ≡ low) ⊎ (min a b ≢ low) → IsTrue (has (get_or down (min a b) 0) (max a b))
      ⊎ ((min a b ≡ low) × (max a b ≡ high))
  by_row (inl same) = by_within same (cases_lt low (length down))
  by_row (inr apart) = inl (rw (get_or-set_other down low (min a b) row 0 apart) at is)

unusable_more : (setting : Setting) (journal : List Item) → IsNet setting.net
    → (down : List ℕ) (x y : ℕ) → AreConvergenceUnusableLinks setting journal down
    → IsFalse (has (near setting journal x) y) → AreConvergenceUnusableLinks setting journal (with_failover_link down x y)
unusable_more setting journal net down x y unusable none a b linked =
    search (rules, cases_eq, near_back, more_links)

-- ---- what stays as it was within the step

pub record StaysSo (setting : Setting) (journal now : List Item) (i : ℕ) : Type 0 where
  pub links : (s : ℕ) → near setting now s ≡ near setting journal s
  pub routes : (s : ℕ) (targets down : List ℕ)
      → journal_route_from setting now s targets down ≡ journal_route_from setting journal s targets down
  pub targets : (leg : Leg) → journal_leg_targets setting now leg ≡ journal_leg_targets setting journal leg
  pub found : AreConvergenceUnusableLinks setting journal (journal_found_down now i)

-- the switch is up in its boot as before, and heard what it had heard
record IsSame (before after : List Item) (s : ℕ) : Type 0 where
  up : is_up after s ≡ is_up before s
  boot : journal_boot_of after s ≡ journal_boot_of before s
  heard : heard after s ≡ heard before s

walks_same : (setting : Setting) (before : List Item) (next : Item) (s : ℕ)
    → Walks setting before next → IsSame before (before ++ next ∷ []) s
walks_same setting before next s walks = search (rules, up_more, boot_more, heard_more)

-- so it knows the same routes where no links change
same_route : (setting : Setting) (before after : List Item) (s : ℕ) → IsSame before after s
    → MachineLinksKeep setting before after → (targets down : List ℕ)
    → journal_route_from setting after s targets down ≡ journal_route_from setting before s targets down
unfolding journal_route_from journal_adverts_known
same_route setting before after s same links targets down = search rules

walks_links : (setting : Setting) (before : List Item) (next : Item)
    → Walks setting before next → IsFalse (machine_item_concerns_links before next)
walks_links setting before next walks = search rules

walks_policies : (setting : Setting) (before : List Item) (next : Item)
    → Walks setting before next → IsFalse (machine_item_concerns_policies before next)
walks_policies setting before next walks = search rules

found_more : (before : List Item) (next : Item) (i : ℕ)
    → journal_found_down (before ++ next ∷ []) i ≡ machine_item_changes_found i before (journal_found_down before i) next
unfolding journal_found_down
found_more before next i = folded_append (machine_item_changes_found i) no_failover_links before (next ∷ [])

found_on : (setting : Setting) (journal : List Item) → IsNet setting.net
    → (before : List Item) (next : Item) (i : ℕ) → Walks setting before next
    → StaysSo setting journal before i
    → AreConvergenceUnusableLinks setting journal (journal_found_down (before ++ next ∷ []) i)
found_on setting journal net before next i walks stays = search (rules, found_more, unusable_more)

pub stays_on : (setting : Setting) (journal : List Item) → IsNet setting.net → (i : ℕ)
    → AreKept (Walks setting) (λ now. StaysSo setting journal now i)
stays_on setting journal net i before next walks stays =
    let links = links_keep setting before (next ∷ []) (walks_links setting before next walks, tt) in
    let plans = policies_keep before (next ∷ []) (walks_policies setting before next walks, tt) in
    record {
      links = λ s. links.near s ∙ stays.links s;
      routes = λ s targets down. same_route setting before (before ++ next ∷ []) s
          (walks_same setting before next s walks) links targets down ∙ stays.routes s targets down;
      targets = λ leg. by_leg leg (λ v. plans.plan setting v) ∙ stays.targets leg;
      found = found_on setting journal net before next i walks stays;
    }
  where
    by_leg : (leg : Leg)
        → ((v : ℕ) → journal_plan_at setting (before ++ next ∷ []) v ≡ journal_plan_at setting before v)
        → journal_leg_targets setting (before ++ next ∷ []) leg ≡ journal_leg_targets setting before leg
    by_leg (Seek version partition) same = ap (λ plan. machine_targets_in plan partition) (same version)
    by_leg (Exit port) same = refl

pub stays_itself : (setting : Setting) (journal : List Item) (i : ℕ)
    → journal_found_down journal i ≡ no_failover_links → StaysSo setting journal journal i
stays_itself setting journal i none = record {
  links = λ t. refl;
  routes = λ t targets found. refl;
  targets = λ leg. refl;
  found = λ one other linked. ap (λ links. link_set_has links one other) none ∙ link_set_has-none one other;
}

-- ---- steps

walk_apart : (setting : Setting) (journal : List Item) → AreAgreed setting journal
    → (items front rest : List Item) (i s : ℕ) (cause : Cause) (leg : Leg) (down : List ℕ)
    → Walk setting journal items → items ≡ front ++ Item.Stuck i s cause leg down ∷ rest
    → journal_found_down journal i ≡ no_failover_links → StepSwitchExists setting.net s
    → All (λ target. ConvergenceReaches setting journal s target → ⊥) (journal_leg_targets setting journal leg)
walk_apart setting journal are items front rest i s cause leg down walk is none there =
    let whole = subst (Walk setting journal) is walk in
    let stays = fact_on (Walks setting) _ (stays_on setting journal are.net i) journal front
    (have_front (Walks setting) journal front _ whole) (stays_itself setting journal i none) in
    let knows : KnowsNoRoute setting (journal ++ front) i s leg down =
    (have_rest (Walks setting) journal front _ whole).0 in
    (agreed_converged setting journal are).stuck s (journal_leg_targets setting journal leg) down there
    (subst (AreConvergenceUnusableLinks setting journal) (sym knows.found) stays.found)
    (sym (stays.routes s (journal_leg_targets setting journal leg) down)
    ∙ ap (λ targets. journal_route_from setting (journal ++ front) s targets down) (sym (stays.targets leg))
    ∙ knows.none)

end_apart : (setting : Setting) (journal items front rest : List Item) (i s : ℕ) (cause : Cause)
    (leg : Leg) (down : List ℕ) → NoEnd journal items
    → items ≡ front ++ Item.Stuck i s cause leg down ∷ rest → ⊥
end_apart setting journal items front rest i s cause leg down ends is = search (rules, have_rest)

-- the step writes what a packet's step writes, or makes no packet stuck
step_kinds : (setting : Setting) (before : List Item) (row : ℕ) (step : Step)
    → let here = before ++ Item.Row row step ∷ [] in
    Walk setting here (machine_step_items setting before step here)
    ⊎ NoEnd here (machine_step_items setting before step here)
step_kinds setting before row (Packet s header) = inl (packet_walk setting _ s header _)
step_kinds setting before row (Hop i) = inl (hop_walk setting i _)
step_kinds setting before row step = inr (others_have _ ends_none setting before row step refl)

pub stuck_reaches_none : (setting : Setting) (journal : List Item) → AreAgreed setting journal
    → ConvergedGetStuckApart setting journal
unfolding piece
stuck_reaches_none setting journal are row step front rest i s cause leg down is none there =
    elim (step_kinds setting journal row step) [
      | inl walk ↦ walk_apart setting journal are _ front rest i s cause leg down
          (have_first (Walks setting) next (machine_step_items setting journal step) journal tt walk) is
          none there
      | inr ends ↦ absurd (end_apart setting journal _ front rest i s cause leg down
          (have_first IsNoEnd next (machine_step_items setting journal step) journal tt ends) is)
    ]
  where
    next : Item
    next = Item.Row row step
