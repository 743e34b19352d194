-- A switch goes down: which packets are lost, which links change, what is told of that, and what
-- the parts are behind it.
use Rattle.std.proofs.Common.{[], ◌&&◌, ◌++◌, ◌+◌, ◌-◌, ◌<◌, ◌==◌, ◌^◌, ◌||◌, ◌∙◌, ◌∷◌, ◌≡◌, All, List, None, Option, Some, ap, append_assoc, arith, false, get_or, if◌then◌else◌, length, length-set, map, option_map, refl, rules, set, slice_get, subst, sym, true, ℕ}
use Rattle.base.proofs.Exports.{get_or_default, none_removed, not, sum_by-cons}
use Rattle.update_machine.specs.Exports.{CacheEntry, Crash, Expire, Item, LinkRow, Message, Setting, machine_item_concerns_calls, machine_item_concerns_known, machine_item_concerns_links, machine_item_concerns_messages, machine_item_concerns_policies, machine_item_concerns_switch, machine_count_of, journal_crash_items, journal_usable_links_changed, is_link_up_in_journal, is_machine_packet_entry, is_up, journal_items_then, journal_link_changes, near, nothing, journal_packets_at, piece, machine_sent_items_from, journal_leg_targets}
use Rattle.switch_core.specs.Exports.{SwitchValue, crashed_switch, switch_entry_expired, near_changed}
use Rattle.switch_table.specs.Exports.{CacheValue, cache_after_expire}
use Rattle.refinement.specs.Exports.{IsRefinedBagOf, RefinementLeavesSwitch, RefinedNetworkState, RefineJournal, refined_expired_by, refined_flight_in, is_refined_up_link, refined_message_at, refined_switch_of, refined_up_links}
use Rattle.refinement.proofs.RefinedSwitchLinks.{crash_is, expiry_is, kept_is, lives_refine}
use Rattle.steps.specs.Exports.{IsStep}
use Rattle.refinement.proofs.RefinedSteps.{WritesOne, WroteOne, grown, one_changes, refines_one, same_links}
use Rattle.refinement.proofs.RefinedPostedFrames.{bag_on}
use Rattle.refinement.proofs.RefinedNetworkSwitches.{switch_is, switch_there}
use Rattle.controller.specs.declared.sends.Act.{Act}
use Rattle.controller.specs.declared.sends.Act.TheVariants.{Post as PostAct}
use Rattle.net_file.specs.Exports.{links_of}
use Rattle.update_machine.proofs.Exports.{have_append, last_given_append, links_keep}
use Rattle.world_log.specs.Exports.{AreLogSwitchesRelinked, LogMaySend, log_act_items, log_all_adverts_sent, logged_near_all}
use Rattle.travelling.specs.Travelling.{TravellingFlights, TravellingWithoutAt, flight, travelling_numbers_at}
use Rattle.refinement.proofs.RefinedActs.{SparesActs, acts_apart, acts_unnamed}
use Rattle.refinement.proofs.RefinedBagDeliveries.{nothing_happens}
use Rattle.refinement.proofs.RefinedPacketTable.{among, among_numbers, flight_lost, losts_apart, losts_bring_none, losts_no_rows, numbers_are}
use Rattle.refinement.proofs.RefinedPacketFacts.{flight_along, flight_now}
use Rattle.refinement.proofs.RefinedLinkChanges.{LinksChange, change_may, change_piece, change_refines, one_advert, one_next, one_relinks, relinked_state}

-- ---- a cached rule expires

-- what the step writes, by the number of the message that brought the entry
abbrev expired_item : ℕ → ℕ → Option ℕ → Item
expired_item s place None = Item.Nothing
expired_item s place (Some message) = Item.Expired s place message

abbrev entry_message : CacheEntry → ℕ
entry_message entry = entry.message

one_item : (s place : ℕ) (found : Option ℕ)
    → refined_expired_by s place found ≡ expired_item s place found ∷ []
one_item s place None = refl
one_item s place (Some message) = refl

-- a row leaves the switch
row_leaves : (setting : Setting) (journal : List Item) (row s place q : ℕ) → refined_switch_of setting
    (journal ++ Item.Row row (Expire s place) ∷ []) q ≡ refined_switch_of setting journal q
row_leaves setting journal row s place q =
    kept_is setting q journal (Item.Row row (Expire s place) ∷ []) (refl, tt) (refl, tt)

expire_piece : (setting : Setting) (journal : List Item) (row s place : ℕ)
    → piece setting journal row (Expire s place)
    ≡ Item.Row row (Expire s place) ∷ expired_item s place (refined_message_at setting journal s place) ∷ []
unfolding piece
expire_piece setting journal row s place = let first : Item = Item.Row row (Expire s place) in
    ap (λ items. first ∷ items) (lives_refine.expires setting (journal ++ first ∷ []) s place
    ∙ ap (λ (w : SwitchValue). refined_expired_by s place (option_map entry_message
    (slice_get w.cache.entries place))) (row_leaves setting journal row s place s)
    ∙ one_item s place (refined_message_at setting journal s place))

-- ---- caches

none_expired : (cache : CacheValue) (place : ℕ) → option_map entry_message
    (slice_get cache.entries place) ≡ None → cache_after_expire place cache ≡ cache
none_expired cache place none = ap (λ entries. record cache { entries = entries })
    (none_removed cache.entries place (by_entry (slice_get cache.entries place) none))
  where
    by_entry : (o : Option CacheEntry) → option_map entry_message o ≡ None → o ≡ None
    by_entry None e = refl
    by_entry (Some entry) e = absurd cc

-- ---- the step

-- the switch itself behind the step
expired_own : (setting : Setting) (journal : List Item) (row s place : ℕ) (found : Option ℕ)
    → refined_message_at setting journal s place ≡ found → switch_entry_expired (refined_switch_of setting journal s) place
    ≡ refined_switch_of setting (grown journal row (Expire s place) (expired_item s place found)) s
expired_own setting journal row s place None none =
    let switch : SwitchValue = refined_switch_of setting journal s in
    ap (λ cache. record switch { cache = cache }) (none_expired switch.cache place none)
    ∙ sym (kept_is setting s journal (Item.Row row (Expire s place) ∷ Item.Nothing ∷ [])
    (refl, (refl, tt)) (refl, (refl, tt)))
expired_own setting journal row s place (Some message) there =
    let first : Item = Item.Row row (Expire s place) in
    let one : Item = Item.Expired s place message in
    ap (λ w. switch_entry_expired w place) (sym (row_leaves setting journal row s place s))
    ∙ sym (expiry_is setting (journal ++ first ∷ []) s place message)
    ∙ ap (λ js. refined_switch_of setting js s) (append_assoc journal (first ∷ []) (one ∷ []))

-- and any other one
expired_other : (setting : Setting) (journal : List Item) (row s q place : ℕ) (found : Option ℕ)
    → (s == q) ≡ false
    → refined_switch_of setting (grown journal row (Expire s place) (expired_item s place found)) q
    ≡ refined_switch_of setting journal q
expired_other setting journal row s q place None other = kept_is setting q journal
    (Item.Row row (Expire s place) ∷ Item.Nothing ∷ []) (refl, (refl, tt)) (refl, (refl, tt))
expired_other setting journal row s q place (Some message) other =
    kept_is setting q journal (Item.Row row (Expire s place) ∷ Item.Expired s place message ∷ [])
    (refl, (ap (λ b. b || false) other, tt)) (refl, (refl, tt))

module _ {setting : Setting} {journal : List Item} {state : RefinedNetworkState}
    (refines : RefineJournal setting journal state) where
  -- the item concerns no packet, no message and no call
  expired_writes : (row s place : ℕ) (changed : SwitchValue) (found : Option ℕ)
      → IsStep setting.net (length setting.files) (Expire s place) → IsRefinedBagOf journal state.posts
      → piece setting journal row (Expire s place) ≡ Item.Row row (Expire s place)
      ∷ expired_item s place found ∷ [] → ((q : ℕ) (d : SwitchValue) → q < length state.switches
      → get_or (set state.switches s changed) q d
      ≡ refined_switch_of setting (grown journal row (Expire s place) (expired_item s place found)) q)
      → WritesOne setting journal row (Expire s place) (expired_item s place found) state.switches
      (set state.switches s changed) state.posts
  expired_writes row s place changed None may bag is each = search (rules, bag_on, length-set)
  expired_writes row s place changed (Some message) may bag is each =
      search (rules, bag_on, length-set)

  pub expired_refines : (row s place : ℕ) (own changed : SwitchValue) (found : Option ℕ)
      → IsStep setting.net (length setting.files) (Expire s place)
      → own ≡ get_or state.switches s own → changed ≡ switch_entry_expired own place
      → found ≡ option_map (λ entry. entry.message) (slice_get own.cache.entries place)
      → WroteOne setting journal row (Expire s place) (expired_item s place found)
      (record state { switches = set state.switches s changed })
  expired_refines row s place own changed found may own_at changed_is found_is =
      let own_is : own ≡ refined_switch_of setting journal s = switch_is refines s own may.0 own_at in
      let at = ap (λ (w : SwitchValue). option_map entry_message (slice_get w.cache.entries place))
      (sym own_is) ∙ sym found_is in
      let is : piece setting journal row (Expire s place)
      ≡ Item.Row row (Expire s place) ∷ expired_item s place found ∷ [] =
      expire_piece setting journal row s place
      ∙ ap (λ o. Item.Row row (Expire s place) ∷ expired_item s place o ∷ []) at in (
        is,
        refines_one refines state.posts (set state.switches s changed) row (Expire s place)
            (expired_item s place found) (expired_writes row s place changed found may refines.bag
            is (λ q d below. one_changes setting journal (grown journal row (Expire s place)
            (expired_item s place found)) state.switches s q changed d (s == q) refl
            (switch_there refines s may.0) (changed_is ∙ ap (λ w. switch_entry_expired w place) own_is
            ∙ expired_own setting journal row s place found at)
            (expired_other setting journal row s q place found) (refines.each q d below))),
      )

-- ---- refined crashes

-- ---- what it writes

-- a switch that is down stays as it is
pub down_piece : (setting : Setting) (journal : List Item) (row s : ℕ) → is_up journal s ≡ false
    → piece setting journal row (Crash s) ≡ Item.Row row (Crash s) ∷ Item.Nothing ∷ []
unfolding piece journal_crash_items
down_piece setting journal row s down = ap (λ b. Item.Row row (Crash s) ∷ elim b [
  | false ↦ nothing
  | true ↦ journal_items_then (Item.Down s ∷ map Item.Lost (journal_packets_at journal s))
      (journal_link_changes setting journal) (journal ++ Item.Row row (Crash s) ∷ [])
]) down

-- another one loses its packets with it, and its neighbours tell that
pub up_piece : (setting : Setting) (journal : List Item) (row s : ℕ) → is_up journal s ≡ true
    → let first = Item.Down s ∷ map Item.Lost (journal_packets_at journal s) in
    piece setting journal row (Crash s)
    ≡ Item.Row row (Crash s) ∷ first
    ++ journal_link_changes setting journal (journal ++ Item.Row row (Crash s) ∷ first)
unfolding piece journal_crash_items
up_piece setting journal row s up =
    let first : List Item = Item.Down s ∷ map Item.Lost (journal_packets_at journal s) in
    ap (λ b. Item.Row row (Crash s) ∷ elim b [
      | false ↦ nothing
      | true ↦ journal_items_then first (journal_link_changes setting journal)
          (journal ++ Item.Row row (Crash s) ∷ [])
    ]) up
    ∙ ap (λ js. Item.Row row (Crash s) ∷ first ++ journal_link_changes setting journal js)
    (append_assoc journal (Item.Row row (Crash s) ∷ []) first)

-- no policy comes by marks and messages
spares_policies : SparesActs machine_item_concerns_policies
spares_policies = record {
  current = λ before v. refl;
  retired = λ before v. refl;
  sent = λ before n message. refl;
}

-- ---- a switch that is there

-- it is the one in its place
pub same_switch : (switches : List SwitchValue) (s : ℕ) (one other : SwitchValue)
    → s < length switches → one ≡ get_or switches s one → other ≡ get_or switches s other
    → one ≡ other
same_switch switches s one other within one_at other_at =
    one_at ∙ get_or_default switches s one other within ∙ sym other_at

module _ {setting : Setting} {journal : List Item} {state : RefinedNetworkState}
    (refines : RefineJournal setting journal state) where
  -- nothing happens where it is down
  pub stays_down : (row s : ℕ) (own : SwitchValue)
      → IsStep setting.net (length setting.files) (Crash s) → own ≡ get_or state.switches s own
      → own.is_up ≡ false → WroteOne setting journal row (Crash s) Item.Nothing state
  unfolding refined_switch_of
  stays_down row s own may own_at down = nothing_happens refines row (Crash s) may (λ q. refl)
      (down_piece setting journal row s
      (sym (ap (λ (w : SwitchValue). w.is_up) (switch_is refines s own may own_at)) ∙ down))

-- ---- links

-- links are up as before
fallen_up : (journal : List Item) (row s : ℕ) (link : LinkRow)
    → is_refined_up_link (grown journal row (Crash s) (Item.Down s)) link ≡ is_refined_up_link journal link
unfolding is_link_up_in_journal
fallen_up journal row s link = search (last_given_append)

module _ {setting : Setting} {journal : List Item} {state : RefinedNetworkState}
    (refines : RefineJournal setting journal state) (row s : ℕ) (own changed : SwitchValue)
    (may : IsStep setting.net (length setting.files) (Crash s)) (within : s < length state.switches)
    (own_at : own ≡ get_or state.switches s own) (changed_is : changed ≡ crashed_switch own)
    (up : own.is_up ≡ true) where
  abbrev packets : List ℕ
  packets = journal_packets_at journal s

  abbrev losts : List Item
  losts = map Item.Lost packets

  abbrev told : List Item
  told = Item.Down s ∷ losts

  abbrev begun : List Item
  begun = journal ++ Item.Row row (Crash s) ∷ []

  abbrev fallen : List Item
  fallen = grown journal row (Crash s) (Item.Down s)

  abbrev now : List Item
  now = journal ++ Item.Row row (Crash s) ∷ told

  split : fallen ++ losts ≡ now
  split = append_assoc journal (Item.Row row (Crash s) ∷ Item.Down s ∷ []) losts

  own_is : own ≡ refined_switch_of setting journal s
  own_is = own_at ∙ refines.each s own within

  was_up : is_up journal s ≡ true
  unfolding refined_switch_of
  was_up = sym (ap (λ (w : SwitchValue). w.is_up) own_is) ∙ up

  -- the switch has lost what it learnt
  crashed_is : changed ≡ refined_switch_of setting now s
  crashed_is = let down : List Item = begun ++ Item.Down s ∷ [] in
      changed_is ∙ ap crashed_switch own_is
      ∙ ap crashed_switch (sym (kept_is setting s journal (Item.Row row (Crash s) ∷ []) (refl, tt)
      (refl, tt)))
      ∙ sym (crash_is setting begun s)
      ∙ sym (kept_is setting s down losts (losts_apart (machine_item_concerns_known s) (λ before k. refl) down
      packets) (losts_apart (machine_item_concerns_calls s) (λ before k. refl) down packets))
      ∙ ap (λ js. refined_switch_of setting js s) (append_assoc begun (Item.Down s ∷ []) losts
      ∙ append_assoc journal (Item.Row row (Crash s) ∷ []) told)

  unchanged : journal_usable_links_changed setting journal now s ≡ false
  unfolding refined_switch_of
  unchanged = ap (λ b. b && not (near setting journal s == near setting now s))
      (sym (ap (λ (w : SwitchValue). w.is_up) (sym changed_is ∙ crashed_is)))

  -- another switch hears nothing
  leaves : (q : ℕ) → (s == q) ≡ false → RefinementLeavesSwitch q journal row (Crash s) told
  leaves q other = record {
    in_step = (tt, losts_no_rows packets);
    apart = (
      refl,
      (
        other,
        losts_apart (machine_item_concerns_switch q) (λ before k. refl) (begun ++ Item.Down s ∷ []) packets,
      ),
    );
    calls = (
      refl,
      (refl, losts_apart (machine_item_concerns_calls q) (λ before k. refl) (begun ++ Item.Down s ∷ []) packets),
    );
  }

  abbrev others : List SwitchValue
  others = set state.switches s changed

  same_up : refined_up_links setting now ≡ refined_up_links setting journal
  same_up = same_links now journal setting.net.links
      (λ link. ap (λ js. is_refined_up_link js link) (sym split) ∙ (links_keep setting fallen losts
      (losts_apart machine_item_concerns_links (λ before k. refl) fallen packets)).up link.one link.two
      ∙ fallen_up journal row s link)

  none_come : machine_count_of is_machine_packet_entry (Item.Row row (Crash s) ∷ told) ≡ 0
  none_come =
      let row_sum = sum_by-cons (λ x. if is_machine_packet_entry x then 1 else 0) (Item.Row row (Crash s)) told in
      let down_sum = sum_by-cons (λ x. if is_machine_packet_entry x then 1 else 0) (Item.Down s) losts in
      omega (arith, row_sum, down_sum, losts_bring_none packets)

  changes : LinksChange setting journal row (Crash s) told state others state.links state.posts
  changes = record {
    may = may;
    piece_is = up_piece setting journal row s was_up;
    not_told = refl;
    none_come = none_come;
    as_many = length-set state.switches s changed;
    number = refl;
    bag = bag_on journal (Item.Row row (Crash s) ∷ told) state.posts (
      refl,
      (refl, losts_apart machine_item_concerns_messages (λ before k. refl) (begun ++ Item.Down s ∷ []) packets),
    ) refines.bag;
    up = λ q below. refines.up q below ∙ ap (λ rows. links_of rows q) (sym same_up);
    relinks = one_relinks refines row (Crash s) told s changed within leaves (sym crashed_is ∙ sym
        (ap (λ b. if b then near_changed changed (near setting now s) else changed) unchanged));
    own = one_advert refines row (Crash s) told s changed within leaves
        (λ changes. let clash : true ≡ false = sym changes ∙ unchanged in absurd cc);
  }

  abbrev messages : List Message
  messages = log_all_adverts_sent state.near (logged_near_all state.links others) others

  abbrev number : ℕ
  number = length state.posts + 1

  numbers : travelling_numbers_at state.travelling s ≡ packets
  numbers = numbers_are refines s

  pub crash_piece : piece setting journal row (Crash s) ≡ Item.Row row (Crash s) ∷ Item.Down s
      ∷ map Item.Lost (travelling_numbers_at state.travelling s) ++ machine_sent_items_from number messages
  crash_piece = cc (change_piece refines changes, numbers)

  pub crash_may : length state.posts < 990_000 → LogMaySend state.posts messages
  crash_may = change_may refines changes

  -- each switch has a next number for its own advert
  pub crash_next : length state.posts < 990_000
      → All (λ (switch : SwitchValue). switch.seq < 2 ^ 32 - 1) others
  crash_next room = one_next refines row (Crash s) told s changed within leaves room (λ next.
      subst (λ (w : SwitchValue). w.seq < 2 ^ 32 - 1) (sym changed_is) (omega arith))

  -- ---- the parts behind it

  abbrev acts : List Act
  acts = map PostAct messages

  abbrev all : List Item
  all = Item.Row row (Crash s) ∷ told ++ log_act_items number acts

  -- the packets on their way
  left : (after : TravellingFlights) → TravellingWithoutAt state.travelling s after → (i : ℕ)
      → flight after i ≡ refined_flight_in setting (journal ++ all) i
  left after without i = without i ∙ ap (λ b. if b then None else flight state.travelling i)
      (sym (among_numbers state.travelling s i) ∙ ap (among i) numbers) ∙ ap
      (λ o. if among i packets then None else o) (refines.packet i ∙ flight_now setting journal i)
      ∙ sym (flight_along setting journal all i (have_append (λ js one. machine_item_concerns_policies js one
      ≡ false) journal (Item.Row row (Crash s) ∷ told) (log_act_items number acts) (
        refl,
        (
          refl,
          losts_apart machine_item_concerns_policies (λ before k. refl) (begun ++ Item.Down s ∷ []) packets,
        ),
      ) (acts_apart machine_item_concerns_policies spares_policies now number acts))
      ∙ flight_lost (journal_leg_targets setting journal) i journal
      (Item.Row row (Crash s) ∷ Item.Down s ∷ []) packets (log_act_items number acts) _
      (refl, (refl, tt)) (acts_unnamed i number acts))

  pub crash_refines : (others_now : List SwitchValue) (after : TravellingFlights) → AreLogSwitchesRelinked state.near
      (logged_near_all state.links others) others others_now → TravellingWithoutAt state.travelling s after
      → RefineJournal setting (journal ++ (Item.Row row (Crash s) ∷ Item.Down s
      ∷ map Item.Lost (travelling_numbers_at state.travelling s) ++ machine_sent_items_from number messages))
      (relinked_state state others state.links state.posts others_now after)
  crash_refines others_now after are without = rw numbers
      (change_refines refines changes others_now after are (left after without))
