-- After items by which links changed, or switches began or ceased to serve: which links are usable,
-- and what the switches send about that.
use Rattle.std.proofs.Common.{[], if◌then◌else◌, ◌&&◌, ◌++◌, ◌+◌, ◌<◌, ◌==◌, ◌||◌, ◌∙◌, ◌∷◌, ◌≡◌, ◌≤◌, Bool, List, None, Some, ap, append-nil, arith, cond, eqb-true, false, filter, get_or, length, not, refl, subst, suc, sym, true, zero, ℕ}
use Rattle.base.proofs.Exports.{AllByRecursion, and_parts, any_filter, filter_more, flat_map, flat_map-append, get_or-map-range_with_len, has_mask, list_any, mask_of_is, mask_of_lt, option_map_or, range_more, range_with_len, recursion_from_All, slice_get-get_or}
use Rattle.update_machine.specs.Exports.{Item, LinkRow, Message, Setting, journal_usable_links_changed, is_up, is_usable_in_journal, machine_messages_of, near, own_advert, serves as serves_in, machine_switches_of, machine_usable_links}
use Rattle.base.specs.Exports.{has, small_number_mask}
use Rattle.net_file.specs.Exports.{IsNetLink, IsNet, are_linked_in_net, net_link_joins}
use Rattle.switch_core.specs.Exports.{SwitchValue, near_changed, switch_next_advert, serves}
use Rattle.refinement.specs.Exports.{is_refined_up_link, refined_link_messages, refined_relinked_switch, refined_switch_of, refined_up_links}
use Rattle.refinement.proofs.RefinedSwitchLinks.{links_refine}
use Rattle.world_log.specs.Exports.{AreLogSwitchesRelinked, logged_adverts_relinked_at, logged_adverts_on_change, log_adverts_over, log_all_adverts_sent, log_links_change, logged_near_all, logged_near_mask_by, logged_switch_serves_at}
use Rattle.world_log.proofs.LogRelinking.{told_nothing}

-- ---- masks

-- masks of tests that agree on the numbers of switches are equal
same_mask : (test other : ℕ → Bool) → ((k : ℕ) → k < 64 → test k ≡ other k)
    → small_number_mask test ≡ small_number_mask other
same_mask test other same = mask_of_is (small_number_mask test) other (mask_of_lt test)
    (λ k below. has_mask test k below ∙ same k below)

-- ---- links

-- a link that joins two switches is usable exactly if it is up and both serve
joined_usable : (journal : List Item) (s k : ℕ) (link : LinkRow) → net_link_joins s k link ≡ true
    → is_usable_in_journal journal link
    ≡ (is_refined_up_link journal link && serves_in journal s && serves_in journal k)
joined_usable journal s k link joined = by_order (link.one == s && link.two == k) refl joined where
  up : Bool
  up = is_refined_up_link journal link

  swap : (a b c : Bool) → (a && b && c) ≡ (a && c && b)
  swap a b c = grind arith

  by_order : (b : Bool) → (link.one == s && link.two == k) ≡ b
      → (b || (link.one == k && link.two == s)) ≡ true
      → is_usable_in_journal journal link ≡ (up && serves_in journal s && serves_in journal k)
  by_order true e is = let parts = and_parts (link.one == s) (link.two == k) e in
      rw (eqb-true link.one s parts.0, eqb-true link.two k parts.1) refl
  by_order false e is = let parts = and_parts (link.one == k) (link.two == s) is in
      rw (eqb-true link.one k parts.0, eqb-true link.two s parts.1)
      (swap _ (serves_in journal k) (serves_in journal s))

spread : (p b x y : Bool) → ((p && x && y) || (b && x && y)) ≡ ((p || b) && x && y)
spread p b x y = grind arith

-- usable links join two switches that serve and that links join that are up
usable_joins : (journal : List Item) (s k : ℕ) (links : List LinkRow)
    → are_linked_in_net (filter (is_usable_in_journal journal) links) s k
    ≡ (are_linked_in_net (filter (is_refined_up_link journal) links) s k
    && serves_in journal s && serves_in journal k)
usable_joins journal s k [] = refl
usable_joins journal s k (link ∷ links) =
    by_joins (net_link_joins s k link) refl (usable_joins journal s k links)
  where
    usable : List LinkRow
    usable = filter (is_usable_in_journal journal) links

    up : List LinkRow
    up = filter (is_refined_up_link journal) links

    skipped : (b : Bool) (rest : List LinkRow) → net_link_joins s k link ≡ false
        → list_any (net_link_joins s k) (cond b (link ∷ rest) rest) ≡ list_any (net_link_joins s k) rest
    skipped true rest e = rw e refl
    skipped false rest e = refl

    kept : (b : Bool) (rest : List LinkRow) → net_link_joins s k link ≡ true
        → list_any (net_link_joins s k) (cond b (link ∷ rest) rest) ≡ (b || list_any (net_link_joins s k) rest)
    kept true rest e = rw e refl
    kept false rest e = refl

    by_joins : (joined : Bool) → net_link_joins s k link ≡ joined → list_any (net_link_joins s k) usable
        ≡ (list_any (net_link_joins s k) up && serves_in journal s && serves_in journal k)
        → list_any (net_link_joins s k) (cond (is_usable_in_journal journal link) (link ∷ usable) usable)
        ≡ (list_any (net_link_joins s k) (cond (is_refined_up_link journal link) (link ∷ up) up)
        && serves_in journal s && serves_in journal k)
    by_joins false e rest =
        cc (skipped (is_usable_in_journal journal link) usable e, rest, skipped (is_refined_up_link journal link) up e)
    by_joins true e rest = kept (is_usable_in_journal journal link) usable e
        ∙ ap (λ b. b || list_any (net_link_joins s k) usable) (joined_usable journal s k link e) ∙ ap
        (λ b. (is_refined_up_link journal link && serves_in journal s && serves_in journal k) || b) rest
        ∙ spread (is_refined_up_link journal link) (list_any (net_link_joins s k) up) (serves_in journal s)
        (serves_in journal k) ∙ ap (λ b. b && serves_in journal s && serves_in journal k)
        (sym (kept (is_refined_up_link journal link) up e))

-- links of the network join two switches of it
linked_ends : (count s k : ℕ) (links : List LinkRow) → AllByRecursion (IsNetLink count) links
    → are_linked_in_net links s k ≡ true → (s < count) × (k < count)
linked_ends count s k [] all is = absurd cc
linked_ends count s k (link ∷ links) all is =
    by_joins (net_link_joins s k link) refl (linked_ends count s k links all.1) is
  where
    by_order : (b : Bool) → (link.one == s && link.two == k) ≡ b
        → (b || (link.one == k && link.two == s)) ≡ true → (s < count) × (k < count)
    by_order true e is = let parts = and_parts (link.one == s) (link.two == k) e in (
      subst (λ j. j < count) (eqb-true link.one s parts.0) all.0.one,
      subst (λ j. j < count) (eqb-true link.two k parts.1) all.0.two,
    )
    by_order false e is = let parts = and_parts (link.one == k) (link.two == s) is in (
      subst (λ j. j < count) (eqb-true link.two s parts.1) all.0.two,
      subst (λ j. j < count) (eqb-true link.one k parts.0) all.0.one,
    )

    by_joins : (b : Bool) → net_link_joins s k link ≡ b
        → (are_linked_in_net links s k ≡ true → (s < count) × (k < count))
        → (b || are_linked_in_net links s k) ≡ true → (s < count) × (k < count)
    by_joins true e rest is = by_order (link.one == s && link.two == k) refl e
    by_joins false e rest is = rest is

pub up_ends : (setting : Setting) (journal : List Item) (s k : ℕ) → IsNet setting.net
    → are_linked_in_net (refined_up_links setting journal) s k ≡ true
    → (s < length setting.net.switches) × (k < length setting.net.switches)
up_ends setting journal s k net is = linked_ends (length setting.net.switches) s k setting.net.links
    (recursion_from_All (IsNetLink (length setting.net.switches)) setting.net.links net.links)
    (any_filter (net_link_joins s k) (is_refined_up_link journal) setting.net.links is)

-- ---- the switches behind the items

-- before the links changed the switches were these, with these links that are up now, and with
-- these usable links before
pub record CanRelink (setting : Setting) (before now : List Item) (links had : List ℕ)
    (switches : List SwitchValue) : Type 0 where
  pub many : length switches ≡ length setting.net.switches
  pub few : length setting.net.switches ≤ 64
  pub up : (s k : ℕ) → s < 64 → k < 64
      → has (get_or links s 0) k ≡ are_linked_in_net (refined_up_links setting now) s k
  pub within : (s k : ℕ) → are_linked_in_net (refined_up_links setting now) s k ≡ true
      → (s < length setting.net.switches) × (k < length setting.net.switches)
  pub had_is : (s : ℕ) → s < length switches → get_or had s 0 ≡ near setting before s
  pub serving : (s : ℕ) → serves_in now s ≡ true → is_up now s ≡ true
  pub relinks : (s : ℕ) (d : SwitchValue) → s < length switches
      → refined_switch_of setting now s ≡ refined_relinked_switch setting before now s (get_or switches s d)
  pub own : (s : ℕ) (d : SwitchValue) → s < length switches → journal_usable_links_changed setting before now s
      ≡ true → own_advert setting now s ≡ switch_next_advert (get_or switches s d) (near setting now s)

module _ (setting : Setting) (before now : List Item) (links had : List ℕ)
    (switches : List SwitchValue) (d : SwitchValue)
    (can : CanRelink setting before now links had switches) where
  -- a switch is up, and is open, as the journal says
  lives : (s : ℕ) → s < length switches → ((get_or switches s d).is_up ≡ is_up now s)
      × ((get_or switches s d).is_open ≡ serves_in now s)
  unfolding refined_switch_of
  lives s there = by_test (journal_usable_links_changed setting before now s) (can.relinks s d there) where
    by_test : (b : Bool) → refined_switch_of setting now s ≡ (if b
        then near_changed (get_or switches s d) (near setting now s) else get_or switches s d)
        → ((get_or switches s d).is_up ≡ is_up now s)
        × ((get_or switches s d).is_open ≡ serves_in now s)
    by_test true is = (
      sym (ap (λ (w : SwitchValue). w.is_up) is),
      sym (ap (λ (w : SwitchValue). w.is_open) is),
    )
    by_test false is = (
      sym (ap (λ (w : SwitchValue). w.is_up) is),
      sym (ap (λ (w : SwitchValue). w.is_open) is),
    )

  both_serve : (up serving : Bool) → (serving ≡ true → up ≡ true) → (up && serving) ≡ serving
  both_serve true serving so = refl
  both_serve false true so = absurd (let e = so refl in cc)
  both_serve false false so = refl

  serves_here : (s : ℕ) → s < length switches → logged_switch_serves_at switches s ≡ serves_in now s
  serves_here s there = ap (λ o. option_map_or serves o false) (slice_get-get_or switches s d there)
      ∙ ap (λ b. b && (get_or switches s d).is_open) (lives s there).0
      ∙ ap (λ b. is_up now s && b) (lives s there).1
      ∙ both_serve (is_up now s) (serves_in now s) (can.serving s)

  linked_so : (s k : ℕ) → s < 64 → k < 64
      → (has (get_or links s 0) k && logged_switch_serves_at switches s && logged_switch_serves_at switches k)
      ≡ are_linked_in_net (machine_usable_links setting now) s k
  linked_so s k fits small =
      ap (λ b. b && logged_switch_serves_at switches s && logged_switch_serves_at switches k) (can.up s k fits small)
      ∙ by_link (are_linked_in_net (refined_up_links setting now) s k) refl
      ∙ sym (usable_joins now s k setting.net.links)
    where
      by_link : (b : Bool) → are_linked_in_net (refined_up_links setting now) s k ≡ b
          → (are_linked_in_net (refined_up_links setting now) s k && logged_switch_serves_at switches s && logged_switch_serves_at switches k)
          ≡ (are_linked_in_net (refined_up_links setting now) s k && serves_in now s && serves_in now k)
      by_link false e = rw e refl
      by_link true e = ap (λ c. are_linked_in_net (refined_up_links setting now) s k && c && logged_switch_serves_at switches k)
          (serves_here s (omega (arith, (can.within s k e).0, can.many)))
          ∙ ap (λ c. are_linked_in_net (refined_up_links setting now) s k && serves_in now s && c) (serves_here k
          (omega (arith, (can.within s k e).1, can.many)))

  -- which links each switch can use now
  pub near_now : (s : ℕ) → s < 64 → get_or (logged_near_all links switches) s 0 ≡ near setting now s
  unfolding near logged_near_all logged_near_mask_by
  near_now s fits = get_or-map-range_with_len (logged_near_mask_by links switches) 0 64 s s 0 fits (omega arith)
      ∙ same_mask (λ k. has (get_or links s 0) k && logged_switch_serves_at switches s && logged_switch_serves_at switches k)
      (are_linked_in_net (machine_usable_links setting now) s) (λ k small. linked_so s k fits small)

  near_there : (s : ℕ) → s < length switches
      → get_or (logged_near_all links switches) s 0 ≡ near setting now s
  near_there s there = near_now s (omega (arith, there, can.many, can.few))

  changes_so : (s : ℕ) → s < length switches
      → log_links_change (get_or had s 0) (get_or (logged_near_all links switches) s 0) (get_or switches s d)
      ≡ journal_usable_links_changed setting before now s
  changes_so s there = cc ((lives s there).0, can.had_is s there, near_there s there)

  -- what each switch is now
  pub switches_now : (others : List SwitchValue)
      → AreLogSwitchesRelinked had (logged_near_all links switches) switches others
      → (s : ℕ) → s < length switches → get_or others s d ≡ refined_switch_of setting now s
  switches_now others are s there =
      cc (are.each s d there, changes_so s there, near_there s there, can.relinks s d there)

  -- what a switch whose links changed tells
  told_changed : (s : ℕ) → s < length switches → journal_usable_links_changed setting before now s ≡ true
      → logged_adverts_on_change (length switches) (get_or had s 0) (get_or (logged_near_all links switches) s 0)
      (get_or switches s d) ≡ machine_messages_of setting before now s
  told_changed s there changed =
      let w : SwitchValue = get_or switches s d in
      let links_now : ℕ = near setting now s in
      let send_adverts : ℕ → ℕ → List Message = λ had_s n. flat_map
      (λ other. log_adverts_over (near_changed w n) (switch_next_advert w n) (has had_s other) other)
      (filter (has n) (machine_switches_of setting)) in
      ap (λ b. if b then flat_map (λ other. log_adverts_over
      (near_changed w (get_or (logged_near_all links switches) s 0))
      (switch_next_advert w (get_or (logged_near_all links switches) s 0)) (has (get_or had s 0) other) other)
      (filter (has (get_or (logged_near_all links switches) s 0)) (range_with_len 0 (length switches)))
      else []) (changes_so s there ∙ changed)
      ∙ ap (λ count. flat_map (λ other. log_adverts_over
      (near_changed w (get_or (logged_near_all links switches) s 0))
      (switch_next_advert w (get_or (logged_near_all links switches) s 0)) (has (get_or had s 0) other) other)
      (filter (has (get_or (logged_near_all links switches) s 0)) (range_with_len 0 count))) can.many
      ∙ ap (λ n. send_adverts (get_or had s 0) n) (near_there s there)
      ∙ ap (λ h. send_adverts h links_now) (can.had_is s there)
      ∙ ap (λ own. refined_link_messages setting (near setting before s) links_now own
      (near_changed w links_now)) (sym (can.own s d there changed))
      ∙ ap (λ switch. refined_link_messages setting (near setting before s) links_now
      (own_advert setting now s) switch)
      (sym (can.relinks s d there ∙ ap (λ b. if b then near_changed w links_now else w) changed))
      ∙ sym (links_refine.told setting before now s)

  told_here : (s : ℕ) → s < length switches
      → logged_adverts_relinked_at (length switches) had (logged_near_all links switches) switches s
      ≡ (if journal_usable_links_changed setting before now s then machine_messages_of setting before now s else [])
  told_here s there = ap (λ o. elim o [
    | None ↦ []
    | Some switch ↦ logged_adverts_on_change (length switches) (get_or had s 0)
        (get_or (logged_near_all links switches) s 0) switch
  ]) (slice_get-get_or switches s d there)
      ∙ by_test (journal_usable_links_changed setting before now s) refl
    where
      by_test : (b : Bool) → journal_usable_links_changed setting before now s ≡ b
          → logged_adverts_on_change (length switches) (get_or had s 0) (get_or (logged_near_all links switches) s
          0) (get_or switches s d) ≡ (if b then machine_messages_of setting before now s else [])
      by_test true is = told_changed s there is
      by_test false is = (told_nothing (get_or switches s d) (length switches) (get_or had s 0)
          (get_or (logged_near_all links switches) s 0) (changes_so s there ∙ is)).1

  below : (n : ℕ) → n ≤ length switches
      → flat_map (logged_adverts_relinked_at (length switches) had (logged_near_all links switches) switches)
      (range_with_len 0 n) ≡ flat_map (machine_messages_of setting before now)
      (filter (journal_usable_links_changed setting before now) (range_with_len 0 n))
  below zero there = refl
  below (suc n) there =
      let f = logged_adverts_relinked_at (length switches) had (logged_near_all links switches) switches in
      let g : ℕ → List Message = machine_messages_of setting before now in
      let p : ℕ → Bool = journal_usable_links_changed setting before now in
      let next : ◌≡◌ {A = ℕ} (suc n) (n + 1) = omega arith in
      ap (λ k. flat_map f (range_with_len 0 k)) next
      ∙ ap (flat_map f) (range_more 0 n n (omega arith))
      ∙ flat_map-append f (range_with_len 0 n) (n ∷ [])
      ∙ ap (λ items. items ++ flat_map f (n ∷ [])) (below n (omega (arith, there)))
      ∙ ap (λ items. flat_map g (filter p (range_with_len 0 n)) ++ items)
      (append-nil (f n) ∙ told_here n (omega (arith, there)) ∙ one (p n))
      ∙ sym (flat_map-append g (filter p (range_with_len 0 n)) (cond (p n) (n ∷ []) []))
      ∙ sym (ap (flat_map g) (filter_more p n))
      ∙ sym (ap (λ k. flat_map g (filter p (range_with_len 0 k))) next)
    where
      one : (b : Bool) → (if b then machine_messages_of setting before now n else [])
          ≡ flat_map (machine_messages_of setting before now) (cond b (n ∷ []) [])
      one true = sym (append-nil (machine_messages_of setting before now n))
      one false = refl

  -- what all of them tell
  pub told_now : log_all_adverts_sent had (logged_near_all links switches) switches
      ≡ flat_map (machine_messages_of setting before now)
      (filter (journal_usable_links_changed setting before now) (machine_switches_of setting))
  unfolding log_all_adverts_sent
  told_now = cc (below (length switches) (omega arith), can.many)
