-- The link of two switches comes back or fails: what its ends are then, what is told of that, and
-- what the parts are behind it.
use Rattle.std.proofs.Common.{[], if◌then◌else◌, ◌&&◌, ◌++◌, ◌+◌, ◌<◌, ◌==◌, ◌^◌, ◌||◌, ◌∙◌, ◌∷◌, ◌≡◌, Bool, List, None, Option, Some, ap, append_assoc, arith, eqb-true, false, get_or, length, max, min, refl, sym, true, unwrap_or, ℕ}
use Rattle.base.proofs.Exports.{and_parts, any_filter_by, beq, has_mask, mask_of_is, nat_tests, option_or}
use Rattle.update_machine.specs.Exports.{Item, LinkRow, Message, Net, Setting, Step, machine_item_concerns_calls, gives_journal_link, is_link_up_in_journal, journal_items_then, journal_last_given, journal_link_changes, machine_link_items, near, nothing, piece, machine_sent_items_from}
use Rattle.base.specs.Exports.{has}
use Rattle.net_file.specs.Exports.{are_linked_in_net, net_link_joins}
use Rattle.net_file.proofs.NetFileRowPlaces.{links as link_laws}
use Rattle.control_laws.specs.Exports.{control_asks_controller}
use Rattle.steps.specs.Exports.{StepLinkExists, IsStep}
use Rattle.switch_core.specs.Exports.{SwitchValue, switch_next_advert}
use Rattle.refinement.specs.Exports.{RefinementLeavesSwitch, RefinedNetworkState, RefineJournal, is_refined_up_link, refined_link_step, refined_relinked_switch, refined_up_links}
use Rattle.refinement.proofs.RefinedSwitchLinks.{links_refine}
use Rattle.update_machine.proofs.Exports.{last_given_append}
use Rattle.world_log.specs.Exports.{AreLogSwitchesRelinked, LogMaySend, LogSetsLink, log_all_adverts_sent, logged_near_all}
use Rattle.refinement.proofs.RefinedBagDeliveries.{nothing_happens}
use Rattle.refinement.proofs.RefinedSteps.{WroteOne}
use Rattle.refinement.proofs.RefinedPostedFrames.{bag_on}
use Rattle.refinement.proofs.RefinedLinkChanges.{relinked_state, LinksChange, change_piece, change_may, unmoved, change_refines}

-- ---- links that are up

-- a link that joins two switches is theirs
joined_up : (journal : List Item) (s k : ℕ) (link : LinkRow) → net_link_joins s k link ≡ true
    → is_refined_up_link journal link ≡ is_link_up_in_journal journal s k
unfolding is_link_up_in_journal
joined_up journal s k link joined = by_order (link.one == s && link.two == k) refl joined where
  turned : is_link_up_in_journal journal k s ≡ is_link_up_in_journal journal s k
  turned =
      let low : min k s ≡ min s k = omega arith in
      let high : max k s ≡ max s k = omega arith in rw (low, high) refl

  by_order : (b : Bool) → (link.one == s && link.two == k) ≡ b
      → (b || (link.one == k && link.two == s)) ≡ true
      → is_link_up_in_journal journal link.one link.two ≡ is_link_up_in_journal journal s k
  by_order true e is = let parts = and_parts (link.one == s) (link.two == k) e in
      ap (λ x. is_link_up_in_journal journal x link.two) (eqb-true link.one s parts.0)
      ∙ ap (λ x. is_link_up_in_journal journal s x) (eqb-true link.two k parts.1)
  by_order false e is = let parts = and_parts (link.one == k) (link.two == s) is in
      ap (λ x. is_link_up_in_journal journal x link.two) (eqb-true link.one k parts.0)
      ∙ ap (λ x. is_link_up_in_journal journal k x) (eqb-true link.two s parts.1) ∙ turned

-- two switches have a link that is up where they have one, and it is up
up_linked : (setting : Setting) (journal : List Item) (s k : ℕ)
    → are_linked_in_net (refined_up_links setting journal) s k
    ≡ (are_linked_in_net setting.net.links s k && is_link_up_in_journal journal s k)
up_linked setting journal s k = any_filter_by (net_link_joins s k) (is_refined_up_link journal)
    (is_link_up_in_journal journal s k) (joined_up journal s k) setting.net.links

-- the lower and the higher switch are those of the link
same_ends : (one two s k : ℕ) → (min one two == min s k && max one two == max s k)
    ≡ net_link_joins s k (record { one = one; two = two })
same_ends one two s k = grind (arith, nat_tests)

-- after the item that reports it, the link is as that says, and others are as before
up_behind : (journal : List Item) (row : ℕ) (step : Step) (one two s k : ℕ) (up : Bool)
    → is_link_up_in_journal (journal ++ Item.Row row step ∷ Item.LinkIs (min one two) (max one two) up ∷ [])
    s k ≡ (if net_link_joins s k (record { one = one; two = two }) then up else is_link_up_in_journal journal s k)
unfolding is_link_up_in_journal
up_behind journal row step one two s k up =
    let tells : Item → Option Bool = gives_journal_link (min s k) (max s k) in
    ap (λ o. unwrap_or o true) (last_given_append tells journal
    (Item.Row row step ∷ Item.LinkIs (min one two) (max one two) up ∷ []))
    ∙ ap (λ b. unwrap_or (option_or (option_or (if b then Some up else None) None)
    (journal_last_given tells journal)) true) (same_ends one two s k)
    ∙ by_test (net_link_joins s k (record { one = one; two = two })) (journal_last_given tells journal)
  where
    by_test : (b : Bool) (was : Option Bool)
        → unwrap_or (option_or (option_or (if b then Some up else None) None) was) true
        ≡ (if b then up else unwrap_or was true)
    by_test true was = refl
    by_test false was = refl

-- ---- the step

-- it names a link of the network
row_link : (net : Net) (files one two : ℕ) (up : Bool) → IsStep net files (refined_link_step up one two)
    → StepLinkExists net one two
row_link net files one two true own = own
row_link net files one two false own = own

-- no call of a switch is made, and the controller isn't told
uncalled : (journal : List Item) (q row one two : ℕ) (up : Bool)
    → machine_item_concerns_calls q journal (Item.Row row (refined_link_step up one two)) ≡ false
uncalled journal q row one two true = refl
uncalled journal q row one two false = refl

untold : (journal : List Item) (one two : ℕ) (up : Bool)
    → control_asks_controller journal (refined_link_step up one two) ≡ false
untold journal one two true = refl
untold journal one two false = refl

link_piece : (setting : Setting) (journal : List Item) (row one two : ℕ) (up : Bool)
    → piece setting journal row (refined_link_step up one two) ≡ Item.Row row (refined_link_step up one two)
    ∷ machine_link_items setting journal one two up (journal ++ Item.Row row (refined_link_step up one two) ∷ [])
unfolding piece
link_piece setting journal row one two true = refl
link_piece setting journal row one two false = refl

-- by whether the link is so already
abbrev items_if : Setting → List Item → List Item → ℕ → ℕ → Bool → Bool → List Item
items_if setting before journal one two up same = elim same [
  | true ↦ nothing
  | false ↦ journal_items_then (Item.LinkIs (min one two) (max one two) up ∷ [])
      (journal_link_changes setting before) journal
]

-- it is so already
same_items : (setting : Setting) (before journal : List Item) (one two : ℕ) (up : Bool)
    → beq (is_link_up_in_journal before one two) up ≡ true
    → machine_link_items setting before one two up journal ≡ nothing
unfolding machine_link_items
same_items setting before journal one two up same = cc same

-- or it changes
other_items : (setting : Setting) (before journal : List Item) (one two : ℕ) (up : Bool)
    → beq (is_link_up_in_journal before one two) up ≡ false → machine_link_items setting before one two up journal
    ≡ Item.LinkIs (min one two) (max one two) up
    ∷ journal_link_changes setting before (journal ++ Item.LinkIs (min one two) (max one two) up ∷ [])
unfolding machine_link_items
other_items setting before journal one two up other = cc other

-- ---- the tie

module _ {setting : Setting} {journal : List Item} {state : RefinedNetworkState}
    (refines : RefineJournal setting journal state) (row one two : ℕ) (up : Bool)
    (may : IsStep setting.net (length setting.files) (refined_link_step up one two)) where
  abbrev step : Step
  step = refined_link_step up one two

  linked : StepLinkExists setting.net one two
  linked = row_link setting.net (length setting.files) one two up may

  -- its ends are switches
  pub ends_below : (one < 64) × (two < 64)
  ends_below =
      let back : StepLinkExists setting.net two one =
      link_laws.both_ways setting.net.links two one ∙ linked in (
        omega (
          arith,
          link_laws.below setting.net two one refines.sound.net back,
          refines.sound.net.few_switches,
        ),
        omega (
          arith,
          link_laws.below setting.net one two refines.sound.net linked,
          refines.sound.net.few_switches,
        ),
      )

  -- the mask of one end has the other one where the link is up
  end_is : has (get_or state.links one 0) two ≡ is_link_up_in_journal journal one two
  end_is = ap (λ mask. has mask two) (refines.up one ends_below.0)
      ∙ has_mask (are_linked_in_net (refined_up_links setting journal) one) two ends_below.1
      ∙ up_linked setting journal one two ∙ ap (λ b. b && is_link_up_in_journal journal one two) linked

  -- nothing happens where it is so already
  pub same_refines : beq (has (get_or state.links one 0) two) up ≡ true
      → WroteOne setting journal row step Item.Nothing state
  same_refines same = nothing_happens refines row step may (λ q. uncalled journal q row one two up)
      (link_piece setting journal row one two up
      ∙ ap (λ items. Item.Row row step ∷ items) (same_items setting journal
      (journal ++ Item.Row row step ∷ []) one two up (ap (λ b. beq b up) (sym end_is) ∙ same)))

  module _ (links : List ℕ) (other : beq (has (get_or state.links one 0) two) up ≡ false)
      (sets : LogSetsLink state.links one two up links)
      (fit : (s : ℕ) → get_or links s 0 < 2 ^ 64) where
    abbrev link : LinkRow
    link = record { one = one; two = two }

    abbrev first : Item
    first = Item.LinkIs (min one two) (max one two) up

    abbrev told : List Item
    told = first ∷ []

    abbrev now : List Item
    now = journal ++ Item.Row row step ∷ told

    split : (journal ++ Item.Row row step ∷ []) ++ told ≡ now
    split = append_assoc journal (Item.Row row step ∷ []) told

    piece_so : piece setting journal row step
        ≡ Item.Row row step ∷ first ∷ journal_link_changes setting journal now
    piece_so = link_piece setting journal row one two up
        ∙ ap (λ items. Item.Row row step ∷ items) (other_items setting journal
        (journal ++ Item.Row row step ∷ []) one two up (ap (λ b. beq b up) (sym end_is) ∙ other))
        ∙ ap (λ js. Item.Row row step ∷ first ∷ journal_link_changes setting journal js) split

    -- no switch hears of it but by its links
    leaves : (q : ℕ) → RefinementLeavesSwitch q journal row step told
    leaves q = record {
      in_step = (tt, tt);
      apart = (refl, (refl, tt));
      calls = (uncalled journal q row one two up, (refl, tt));
    }

    -- the switches that the link joins have one
    joined : (s k : ℕ) → net_link_joins s k link ≡ true → are_linked_in_net setting.net.links s k ≡ true
    joined s k is = by_order (one == s && two == k) refl is where
      by_order : (b : Bool) → (one == s && two == k) ≡ b
          → (b || (one == k && two == s)) ≡ true → are_linked_in_net setting.net.links s k ≡ true
      by_order true e is = let parts = and_parts (one == s) (two == k) e in
          ap (λ x. are_linked_in_net setting.net.links x k) (sym (eqb-true one s parts.0))
          ∙ ap (λ x. are_linked_in_net setting.net.links one x) (sym (eqb-true two k parts.1))
          ∙ linked
      by_order false e is = let parts = and_parts (one == k) (two == s) is in
          link_laws.both_ways setting.net.links s k
          ∙ ap (λ x. are_linked_in_net setting.net.links x s) (sym (eqb-true one k parts.0))
          ∙ ap (λ x. are_linked_in_net setting.net.links one x) (sym (eqb-true two s parts.1))
          ∙ linked

    by_end : (j a was : Bool) → (j ≡ true → a ≡ true)
        → (if j then up else (a && was)) ≡ (a && (if j then up else was))
    by_end true true was so = refl
    by_end true false was so = absurd (let e = so refl in cc)
    by_end false a was so = refl

    up_now : (s k : ℕ) → s < 64 → k < 64
        → has (get_or links s 0) k ≡ are_linked_in_net (refined_up_links setting now) s k
    up_now s k small below = sets s k small below
        ∙ ap (λ b. if net_link_joins s k link then up else b) (ap (λ mask. has mask k) (refines.up s small)
        ∙ has_mask (are_linked_in_net (refined_up_links setting journal) s) k below
        ∙ up_linked setting journal s k) ∙ by_end (net_link_joins s k link)
        (are_linked_in_net setting.net.links s k) (is_link_up_in_journal journal s k) (joined s k)
        ∙ ap (λ b. are_linked_in_net setting.net.links s k && b)
        (sym (up_behind journal row step one two s k up)) ∙ sym (up_linked setting now s k)

    changes : LinksChange setting journal row step told state state.switches links state.posts
    changes = record {
      may = may;
      piece_is = piece_so;
      not_told = untold journal one two up;
      none_come = refl;
      as_many = refl;
      number = refl;
      bag = bag_on journal (Item.Row row step ∷ told) state.posts (refl, (refl, tt)) refines.bag;
      up = λ q below. mask_of_is (get_or links q 0) (are_linked_in_net (refined_up_links setting now) q) (fit q)
          (λ k small. up_now q k below small);
      relinks = λ q d below. links_refine.relinked setting q journal row step told (leaves q)
          ∙ ap (refined_relinked_switch setting journal now q) (sym (refines.each q d below));
      own = λ q d below changes. links_refine.advert setting q journal row step told (leaves q)
          changes ∙ ap (λ w. switch_next_advert w (near setting now q)) (sym (refines.each q d below));
    }

    abbrev messages : List Message
    messages = log_all_adverts_sent state.near (logged_near_all links state.switches) state.switches

    pub set_piece : piece setting journal row step
        ≡ Item.Row row step ∷ first ∷ machine_sent_items_from (length state.posts + 1) messages
    set_piece = change_piece refines changes

    pub set_may : length state.posts < 990_000 → LogMaySend state.posts messages
    set_may = change_may refines changes

    -- the parts behind the step, where these are the switches
    pub set_refines : (others : List SwitchValue)
        → AreLogSwitchesRelinked state.near (logged_near_all links state.switches) state.switches others
        → RefineJournal setting (journal ++ Item.Row row step ∷ first
        ∷ machine_sent_items_from (length state.posts + 1) messages)
        (relinked_state state state.switches links state.posts others state.travelling)
    set_refines others are = change_refines refines changes others state.travelling are
        (unmoved refines changes (λ i. (refl, (refl, tt))))
