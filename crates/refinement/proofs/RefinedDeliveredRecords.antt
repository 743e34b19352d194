-- A message is delivered: the record of its switch, whether it opens, and what it sends.
use Rattle.std.proofs.Common.{[], if◌then◌else◌, ◌&&◌, ◌++◌, ◌+◌, ◌-◌, ◌<◌, ◌==◌, ◌||◌, ◌∙◌, ◌∷◌, ◌≡◌, ◌≤◌, ◌⊎◌, Bool, IsTrue, List, None, Option, Some, ap, append-nil, append_assoc, arith, cond, eqb-true, false, filter, inl, inr, length, map, max, refl, subst, suc, sym, true, unwrap_or, zero, ℕ}
use Rattle.base.proofs.Exports.{AllByRecursion, and_parts, filter_more, or-false, range_with_len, recursion_from_All}
use Rattle.update_machine.specs.Exports.{Advert, Advertise, Body, Deliver, Install, Item, LinkRow, MachineLinksKeep, Message, OpenAt, Setting, Stamp, machine_advert_to, journal_boot_of, machine_delivery_items, machine_item_gives_boot, machine_item_gives_switch_up, journal_usable_links_changed, heard, is_journal_body_for_boot, is_journal_message_to, is_journal_news_to, is_up, journal_items_then, journal_link_changes, journal_message_of, near, own_advert, journal_own_seq, machine_advert_passed_on, machine_received_items, machine_send_items, machine_sent_items_from, serves, journal_stamp_of, journal_switch_items, machine_switches_of, machine_message_to_switch, machine_touched_by}
use Rattle.base.specs.Exports.{has, switches}
use Rattle.net_file.specs.Exports.{IsNetLink, IsNet, are_linked_in_net}
use Rattle.switch_core.specs.Exports.{SwitchValue, switch_flood, is_news_to_switch as is_news_at, switch_next_advert, switch_opened_by, switch_opening_stamp, replies, switch_replies_to, switch_with_message}
use Rattle.switch_core.proofs.SwitchLaws.{heard_keeps}
use Rattle.update_machine.proofs.Exports.{last_given_append, links_keep, policies_keep}
use Rattle.control_laws.proofs.Exports.{each_weaker, heard_more, message_more, near_linked}
use Rattle.control_laws.specs.Exports.{ControlBodiesNameThere, ControlMessageNamesThere}
use Rattle.refinement.specs.Exports.{HearingRefines, IsRefinedSentTo, refined_relinked_switch, refined_switch_of, refined_journal_within_delivery}
use Rattle.refinement.proofs.RefinedHearing.{by_obeying, controller_shut, controller_silent, facts_opened, heard_is, is_meant, open_kept, opens_as, said_is}
use Rattle.refinement.proofs.RefinedSwitchLinks.{kept_is, one_if, relinks, seq_more, unchanged}
use Rattle.refinement.proofs.RefinedSwitchFacts.{AreVersioned, IsVersioned, SwitchFacts, advert_of, boot_shown, by_facts, facts_of, number_shown, seq_shown, stamp_shown, switch_is}
use Rattle.refinement.proofs.RefinedSwitchHearing.{SaysTouched}

-- ---- versions that messages name

versioned : (setting : Setting) (journal : List Item) (s : ℕ) (body : Body)
    → ControlMessageNamesThere setting journal (machine_message_to_switch s body) → IsVersioned body
versioned setting journal s (Install boot tables) names = names.version.0
versioned setting journal s _ names = tt

-- a stamp that was sent says what is touched, also within the step that delivers it
says_touched : (setting : Setting) (before here : List Item) (n s : ℕ) (body : Body)
    → ((v : ℕ) → machine_touched_by setting here v ≡ machine_touched_by setting before v)
    → IsRefinedSentTo setting before n s body → SaysTouched (machine_touched_by setting here) body
says_touched setting before here n s (Stamp boot version touched) same is =
    (is.touched.sent n s boot version touched is.sent).says ∙ sym (same version)
says_touched setting before here n s _ same is = tt

all_versioned : (setting : Setting) (journal : List Item) (s : ℕ) → ControlBodiesNameThere setting journal
    → AreVersioned (heard journal s)
all_versioned setting journal s names =
    each_weaker (λ body. ControlMessageNamesThere setting journal (machine_message_to_switch s body)) IsVersioned
    (versioned setting journal s) (heard journal s)
    (recursion_from_All (λ body. ControlMessageNamesThere setting journal (machine_message_to_switch s body)) (heard journal s)
    (names.heard s))

-- ---- within the step

abbrev rowed : List Item → ℕ → ℕ → List Item
rowed before row n = before ++ Item.Row row (Deliver n) ∷ []

-- the delivery behind its row, and what comes then
delivering_is : (before : List Item) (row n : ℕ)
    → refined_journal_within_delivery before row n [] ≡ rowed before row n ++ Item.Delivered n ∷ []
delivering_is before row n = sym (append_assoc before (Item.Row row (Deliver n) ∷ [])
    (Item.Delivered n ∷ []))

delivering_more : (before : List Item) (row n : ℕ) (next : Item)
    → refined_journal_within_delivery before row n (next ∷ []) ≡ refined_journal_within_delivery before row n [] ++ next ∷ []
delivering_more before row n next = sym (append_assoc before
    (Item.Row row (Deliver n) ∷ Item.Delivered n ∷ []) (next ∷ []))

row_keeps : (setting : Setting) (before : List Item) (row n s : ℕ)
    → refined_switch_of setting (rowed before row n) s ≡ refined_switch_of setting before s
row_keeps setting before row n s =
    kept_is setting s before (Item.Row row (Deliver n) ∷ []) (refl, tt) (refl, tt)

-- the switch behind the delivery in its step, open or closed as it was
delivered_is : (setting : Setting) (before : List Item) (row n s : ℕ) (body : Body)
    → IsRefinedSentTo setting before n s body → refined_switch_of setting (refined_journal_within_delivery before row n []) s
    ≡ record (switch_with_message (refined_switch_of setting before s) n body) {
      is_open = (refined_switch_of setting before s).is_open;
    }
delivered_is setting before row n s body is =
    let here : List Item = rowed before row n in
    let bodies : heard here s ≡ heard before s = heard_more before (Item.Row row (Deliver n)) s in
    ap (λ js. refined_switch_of setting js s) (delivering_is before row n)
    ∙ heard_is setting here n s body
    (message_more before (Item.Row row (Deliver n)) n ∙ is.sent)
    (subst AreVersioned (sym bodies) (all_versioned setting before s is.names))
    (versioned setting before s body (is.names.sent n (machine_message_to_switch s body) is.sent))
    (says_touched setting before here n s body
    ((policies_keep before (Item.Row row (Deliver n) ∷ []) (refl, tt)).touched setting) is)
    ∙ ap (λ (switch : SwitchValue). record (switch_with_message switch n body) { is_open = switch.is_open })
    (row_keeps setting before row n s)

shut_is : (setting : Setting) (before : List Item) (row n s : ℕ) (body : Body)
    → IsRefinedSentTo setting before n s body → switch_opening_stamp (refined_switch_of setting before s) body ≡ None
    → refined_switch_of setting (refined_journal_within_delivery before row n []) s
    ≡ switch_with_message (refined_switch_of setting before s) n body
shut_is setting before row n s body is shut =
    let switch : SwitchValue = refined_switch_of setting before s in
    delivered_is setting before row n s body is
    ∙ ap (λ b. record (switch_with_message switch n body) { is_open = b }) (sym (open_kept switch n body shut))

-- ---- a switch that opens

-- the items of the step
abbrev opening : ℕ → ℕ → ℕ → ℕ → List Item
opening row n s stamp = Item.Row row (Deliver n) ∷ Item.Delivered n ∷ Item.Opened s stamp ∷ []

same_boot : (before : List Item) (row n s stamp : ℕ)
    → journal_boot_of (before ++ opening row n s stamp) s ≡ journal_boot_of before s
unfolding journal_boot_of
same_boot before row n s stamp =
    ap (λ o. unwrap_or o 1) (last_given_append (machine_item_gives_boot s) before (opening row n s stamp))

same_up : (before : List Item) (row n s stamp : ℕ)
    → is_up (before ++ opening row n s stamp) s ≡ is_up before s
unfolding is_up
same_up before row n s stamp = cc (last_given_append (machine_item_gives_switch_up s) before (opening row n s stamp))

-- the links were kept until it opened
kept_until : (setting : Setting) (before : List Item) (row n : ℕ)
    → MachineLinksKeep setting before (refined_journal_within_delivery before row n [])
kept_until setting before row n = links_keep setting before
    (Item.Row row (Deliver n) ∷ Item.Delivered n ∷ []) (refl, (refl, tt))

opened_seq : (setting : Setting) (before : List Item) (row n s stamp : ℕ)
    → let now = before ++ opening row n s stamp in
    journal_own_seq setting now s
    ≡ journal_own_seq setting (refined_journal_within_delivery before row n []) s + one_if
    (journal_usable_links_changed setting before now s)
opened_seq setting before row n s stamp =
    seq_more setting before row s (Deliver n) (Item.Delivered n ∷ Item.Opened s stamp ∷ [])
    (tt, (tt, tt)) (same_boot before row n s stamp) (same_up before row n s stamp)
    ∙ ap (λ k. k + one_if (journal_usable_links_changed setting before (before ++ opening row n s stamp) s))
    (sym ((kept_until setting before row n).seq s))

opened_facts : (setting : Setting) (before : List Item) (row n s stamp : ℕ)
    → let here = refined_journal_within_delivery before row n [] in
    let now = before ++ opening row n s stamp in
    facts_of setting now s
    ≡ record (facts_of setting here s) {
      serving = true;
      seq = journal_own_seq setting here s + one_if (journal_usable_links_changed setting before now s);
      links = near setting now s;
    }
opened_facts setting before row n s stamp =
    let here : List Item = refined_journal_within_delivery before row n [] in
    let split = delivering_more before row n (Item.Opened s stamp) in
    ap (λ js. facts_of setting js s) split
    ∙ facts_opened setting here s stamp
    ∙ ap (λ js. record (facts_of setting here s) {
      serving = true;
      seq = journal_own_seq setting js s;
      links = near setting js s;
    }) (sym split)
    ∙ ap (λ seq. record (facts_of setting here s) {
      serving = true;
      seq = seq;
      links = near setting (before ++ opening row n s stamp) s;
    }) (opened_seq setting before row n s stamp)

stamp_behind : (setting : Setting) (before : List Item) (row n s stamp : ℕ) (body : Body)
    → IsRefinedSentTo setting before n s body → switch_opening_stamp (refined_switch_of setting before s) body
    ≡ Some stamp
    → stamp ≡ journal_stamp_of (refined_journal_within_delivery before row n []) s
stamp_behind setting before row n s stamp body is opens =
    (opens_as (refined_switch_of setting before s) n stamp body opens).1
    ∙ ap (λ (switch : SwitchValue). switch.stamp)
    (sym (delivered_is setting before row n s body is))
    ∙ stamp_shown setting (refined_journal_within_delivery before row n []) s

opening_is : (setting : Setting) (before : List Item) (row n s stamp : ℕ) (body : Body)
    → IsRefinedSentTo setting before n s body → switch_opening_stamp (refined_switch_of setting before s) body
    ≡ Some stamp
    → let now = refined_journal_within_delivery before row n (Item.Opened s stamp ∷ []) in
    refined_switch_of setting now s
    ≡ refined_relinked_switch setting before now s (switch_with_message (refined_switch_of setting before s) n body)
opening_is setting before row n s stamp body is opens =
    by_facts setting now s _ (opened_facts setting before row n s stamp)
    ∙ relinks s (record w { serving = true }) _ _ _ _ (near setting now s)
    (journal_usable_links_changed setting before now s) same ∙ ap (refined_relinked_switch setting before now s)
    (ap (λ (switch : SwitchValue). record switch { is_open = true }) (sym (switch_is setting here s)
    ∙ delivered_is setting before row n s body is) ∙ ap (λ b. record heard_now { is_open = b })
    (sym (opens_as (refined_switch_of setting before s) n stamp body opens).0))
  where
    here : List Item
    here = refined_journal_within_delivery before row n []

    now : List Item
    now = refined_journal_within_delivery before row n (Item.Opened s stamp ∷ [])

    w : SwitchFacts
    w = facts_of setting here s

    heard_now : SwitchValue
    heard_now = switch_with_message (refined_switch_of setting before s) n body

    same : journal_usable_links_changed setting before now s ≡ false
        → (near setting now s ≡ near setting here s) ⊎ (journal_own_seq setting here s ≡ 0)
    same none = elim (unchanged setting before now s (same_up before row n s stamp) none) [
      | inl near_same ↦ inl (near_same ∙ sym ((kept_until setting before row n).near s))
      | inr untold ↦ inr ((kept_until setting before row n).seq s ∙ untold)
    ]

opening_advert : (setting : Setting) (before : List Item) (row n s stamp : ℕ) (body : Body)
    → let now = refined_journal_within_delivery before row n (Item.Opened s stamp ∷ []) in
    IsTrue (journal_usable_links_changed setting before now s)
    → own_advert setting now s
    ≡ switch_next_advert (switch_with_message (refined_switch_of setting before s) n body) (near setting now s)
opening_advert setting before row n s stamp body changes =
    let now : List Item = before ++ opening row n s stamp in
    let switch : SwitchValue = refined_switch_of setting before s in
    let rest = (heard_keeps switch n body).rest in
    let boot : journal_boot_of now s ≡ (switch_with_message switch n body).boot =
    same_boot before row n s stamp ∙ boot_shown setting before s ∙ sym (ap (λ (s : SwitchValue). s.boot) rest) in
    let number = ap (λ (s : SwitchValue). s.number) rest ∙ number_shown setting before s in
    let seq = opened_seq setting before row n s stamp
    ∙ ap (λ b. journal_own_seq setting (refined_journal_within_delivery before row n []) s + one_if b) changes
    ∙ ap (λ k. k + 1) ((kept_until setting before row n).seq s ∙ seq_shown setting before s
    ∙ sym (ap (λ (s : SwitchValue). s.seq) rest)) in
    advert_of setting now s ∙ rw (boot, seq, number) refl

-- ---- what it sends

-- a link of the network leads to a switch of it
linked_small : (count s k : ℕ) (links : List LinkRow) → AllByRecursion (IsNetLink count) links
    → are_linked_in_net links s k ≡ true → k < count
linked_small count s k [] all is = absurd cc
linked_small count s k (link ∷ links) all is = by_first (link.one == s && link.two == k) refl
    (link.one == k && link.two == s) refl (linked_small count s k links all.1) is
  where
    by_first : (b : Bool) → (link.one == s && link.two == k) ≡ b → (c : Bool)
        → (link.one == k && link.two == s) ≡ c → (are_linked_in_net links s k ≡ true → k < count)
        → ((b || c) || are_linked_in_net links s k) ≡ true → k < count
    by_first true e c f rest is =
        subst (λ j. j < count) (eqb-true link.two k (and_parts _ _ e).1) all.0.two
    by_first false e true f rest is =
        subst (λ j. j < count) (eqb-true link.one k (and_parts _ _ f).0) all.0.one
    by_first false e false f rest is = rest is

near_small : (setting : Setting) (journal : List Item) (s k : ℕ) → IsNet setting.net
    → length setting.net.switches ≤ k → has (near setting journal s) k ≡ false
near_small setting journal s k net past = by_test (has (near setting journal s) k) refl where
  by_test : (b : Bool) → has (near setting journal s) k ≡ b → b ≡ false
  by_test true is = let count : ℕ = length setting.net.switches in
      absurd (omega (
        arith,
        past,
        linked_small count s k setting.net.links
            (recursion_from_All (IsNetLink count) setting.net.links net.links)
            (near_linked setting journal s k is),
      ))
  by_test false is = refl

-- numbers that don't pass a test may be left out at the end
filter_first : (p : ℕ → Bool) (n more : ℕ) → ((k : ℕ) → n ≤ k → p k ≡ false)
    → filter p (range_with_len 0 (n + more)) ≡ filter p (range_with_len 0 n)
filter_first p n zero none = ap (λ k. filter p (range_with_len 0 k)) (omega arith)
filter_first p n (suc more) none = ap (λ k. filter p (range_with_len 0 k)) (one_later n more)
    ∙ filter_more p (n + more)
    ∙ ap (λ b. filter p (range_with_len 0 (n + more)) ++ cond b ((n + more) ∷ []) [])
    (none (n + more) (omega arith))
    ∙ append-nil (filter p (range_with_len 0 (n + more))) ∙ filter_first p n more none
  where
    one_later : (n more : ℕ) → n + suc more ≡ n + more + 1
    one_later n more = omega arith

neighbours_are : (setting : Setting) (journal : List Item) (s : ℕ) → IsNet setting.net
    → filter (has (near setting journal s)) switches
    ≡ filter (has (near setting journal s)) (machine_switches_of setting)
unfolding switches
neighbours_are setting journal s net =
    let count : ℕ = length setting.net.switches in
    let all : count + (64 - count) ≡ 64 = omega (arith, net.few_switches) in
    ap (λ n. filter (has (near setting journal s)) (range_with_len 0 n)) (sym all)
    ∙ filter_first (has (near setting journal s)) count (64 - count)
    (λ k past. near_small setting journal s k net past)

passed_as : (setting : Setting) (before now : List Item) (s : ℕ) (advert : Advert)
    → IsNet setting.net → near setting now s ≡ near setting before s
    → machine_advert_passed_on setting now s advert ≡ switch_flood (near setting before s) (Advertise advert)
unfolding switch_flood
passed_as setting before now s advert net same = cc (same, neighbours_are setting before s net)

-- by its body, which the switch obeys
sends_nothing : (journal : List Item) → [] ≡ machine_send_items journal []
unfolding machine_sent_items_from
sends_nothing journal = refl

obeyed_items : (setting : Setting) (before now : List Item) (s : ℕ) (body : Body)
    → IsNet setting.net → near setting now s ≡ near setting before s
    → is_journal_body_for_boot (journal_boot_of before s) body ≡ true → switch_opened_by (refined_switch_of setting before s) body
    ≡ None → journal_switch_items setting before s body now
    ≡ machine_send_items now (switch_replies_to (refined_switch_of setting before s) (near setting before s) body)
unfolding journal_switch_items refined_switch_of is_news_at
obeyed_items setting before now s (Install boot tables) net same own shut =
    cc (eqb-true boot (journal_boot_of before s) own)
obeyed_items setting before now s (Stamp boot version touched) net same own shut =
    cc (eqb-true boot (journal_boot_of before s) own)
obeyed_items setting before now s (OpenAt boot version) net same own shut =
    by_open (serves before s) shut
  where
    by_open : (b : Bool) → (if b then None else Some (max (journal_stamp_of before s) version)) ≡ None
        → elim b [
          | true ↦ []
          | false ↦ journal_items_then (Item.Opened s (journal_stamp_of now s) ∷ []) (journal_link_changes setting before)
              now
        ] ≡ machine_send_items now []
    by_open true shut = sends_nothing now
    by_open false shut = absurd cc
obeyed_items setting before now s (Advertise advert) net same own shut =
    by_news (is_journal_news_to setting before s advert)
  where
    by_news : (b : Bool) → elim b [
      | true ↦ machine_send_items now (machine_advert_passed_on setting now s advert)
      | false ↦ []
    ] ≡ machine_send_items now (if b then switch_flood (near setting before s) (Advertise advert) else [])
    by_news true = ap (machine_send_items now) (passed_as setting before now s advert net same)
    by_news false = sends_nothing now
obeyed_items setting before now s _ net same own shut = sends_nothing now

obeyed_opens : (setting : Setting) (before now : List Item) (s stamp : ℕ) (body : Body)
    → stamp ≡ journal_stamp_of now s → switch_opened_by (refined_switch_of setting before s) body ≡ Some stamp
    → journal_switch_items setting before s body now
    ≡ journal_items_then (Item.Opened s stamp ∷ []) (journal_link_changes setting before) now
unfolding journal_switch_items refined_switch_of
obeyed_opens setting before now s stamp (OpenAt boot version) is opens =
    by_open (serves before s) opens
  where
    by_open : (b : Bool) → (if b then None else Some (max (journal_stamp_of before s) version)) ≡ Some stamp
        → elim b [
          | true ↦ []
          | false ↦ journal_items_then (Item.Opened s (journal_stamp_of now s) ∷ []) (journal_link_changes setting before)
              now
        ] ≡ journal_items_then (Item.Opened s stamp ∷ []) (journal_link_changes setting before) now
    by_open true opens = absurd cc
    by_open false opens = cc is
obeyed_opens setting before now s stamp _ is opens = absurd cc

-- ---- the items of a delivery

items_are : (setting : Setting) (before now : List Item) (n s : ℕ) (body : Body)
    → journal_message_of before n ≡ Some (machine_message_to_switch s body) → machine_delivery_items setting before n now
    ≡ (if is_meant before s body then journal_switch_items setting before s body now else [])
unfolding machine_delivery_items
items_are setting before now n s body sent = ap (λ (o : Option Message). elim o [
  | None ↦ []
  | Some message ↦ machine_received_items setting before n message now
]) sent
    ∙ ap (λ (o : Option Body). elim o [
      | None ↦ []
      | Some body ↦ journal_switch_items setting before s body now
    ]) (said_is before s n body sent)
    ∙ by_meant (is_meant before s body)
  where
    by_meant : (b : Bool) → elim (if b then Some body else None) [
      | None ↦ []
      | Some body ↦ journal_switch_items setting before s body now
    ] ≡ (if b then journal_switch_items setting before s body now else [])
    by_meant true = refl
    by_meant false = refl

opened_as : (setting : Setting) (before : List Item) (s : ℕ) (body : Body)
    → switch_opening_stamp (refined_switch_of setting before s) body
    ≡ (if is_meant before s body then switch_opened_by (refined_switch_of setting before s) body else None)
unfolding switch_opening_stamp refined_switch_of
opened_as setting before s body = let switch : SwitchValue = refined_switch_of setting before s in
    by_obeying switch body (is_up before s) (is_journal_body_for_boot (journal_boot_of before s) body)
    (switch_opened_by switch body) None refl refl (controller_shut switch body)

replies_as : (setting : Setting) (before : List Item) (s mask : ℕ) (body : Body)
    → replies (refined_switch_of setting before s) mask body
    ≡ (if is_meant before s body then switch_replies_to (refined_switch_of setting before s) mask body else [])
unfolding replies refined_switch_of
replies_as setting before s mask body = let switch : SwitchValue = refined_switch_of setting before s in
    by_obeying switch body (is_up before s) (is_journal_body_for_boot (journal_boot_of before s) body)
    (switch_replies_to switch mask body) [] refl refl (controller_silent switch mask body)

shut_items : (setting : Setting) (before : List Item) (row n s : ℕ) (body : Body)
    → IsNet setting.net → IsRefinedSentTo setting before n s body
    → switch_opening_stamp (refined_switch_of setting before s) body ≡ None → machine_delivery_items setting before n
    (refined_journal_within_delivery before row n []) ≡ machine_send_items (refined_journal_within_delivery before row n [])
    (replies (refined_switch_of setting before s) (near setting before s) body)
shut_items setting before row n s body net is shut = items_are setting before now n s body is.sent
    ∙ by_meant (is_up before s) (is_journal_body_for_boot (journal_boot_of before s) body) refl
    (sym (opened_as setting before s body) ∙ shut) ∙ ap (machine_send_items now)
    (sym (replies_as setting before s (near setting before s) body))
  where
    now : List Item
    now = refined_journal_within_delivery before row n []

    switch : SwitchValue
    switch = refined_switch_of setting before s

    by_meant : (up own : Bool) → is_journal_body_for_boot (journal_boot_of before s) body ≡ own
        → (if up && own then switch_opened_by switch body else None) ≡ None
        → (if up && own then journal_switch_items setting before s body now else [])
        ≡ machine_send_items now (if up && own then switch_replies_to switch (near setting before s) body else [])
    by_meant true true own shut = obeyed_items setting before now s body net
        ((kept_until setting before row n).near s) own shut
    by_meant true false own shut = sends_nothing now
    by_meant false own_is own shut = sends_nothing now

opening_items : (setting : Setting) (before : List Item) (row n s stamp : ℕ) (body : Body)
    → IsRefinedSentTo setting before n s body
    → switch_opening_stamp (refined_switch_of setting before s) body ≡ Some stamp
    → machine_delivery_items setting before n (refined_journal_within_delivery before row n []) ≡ journal_items_then
    (Item.Opened s stamp ∷ []) (journal_link_changes setting before) (refined_journal_within_delivery before row n [])
opening_items setting before row n s stamp body is opens =
    items_are setting before now n s body is.sent
    ∙ by_meant (is_meant before s body) (sym (opened_as setting before s body) ∙ opens)
  where
    now : List Item
    now = refined_journal_within_delivery before row n []

    by_meant : (b : Bool)
        → (if b then switch_opened_by (refined_switch_of setting before s) body else None) ≡ Some stamp
        → (if b then journal_switch_items setting before s body now else [])
        ≡ journal_items_then (Item.Opened s stamp ∷ []) (journal_link_changes setting before) now
    by_meant true mine = obeyed_opens setting before now s stamp body
        (stamp_behind setting before row n s stamp body is opens) mine
    by_meant false mine = absurd cc

pub hearing_refines : HearingRefines
hearing_refines = record {
  heard_but_open = λ setting before n s body is.
      heard_is setting before n s body is.sent (all_versioned setting before s is.names)
      (versioned setting before s body (is.names.sent n (machine_message_to_switch s body) is.sent))
      (says_touched setting before before n s body (λ v. refl) is);
  shut = λ setting before n s body net is shut. record {
    record_of = λ row. shut_is setting before row n s body is shut;
    items = λ row. shut_items setting before row n s body net is shut;
  };
  opening = λ setting before n s stamp body is opens. record {
    record_of = λ row. opening_is setting before row n s stamp body is opens;
    advert = λ row. opening_advert setting before row n s stamp body;
    items = λ row. opening_items setting before row n s stamp body is opens;
  };
  other = λ setting before n s apart. kept_is setting s before
      (Item.Delivered n ∷ []) (or-false (is_journal_message_to before s n) ∙ apart, tt) (refl, tt);
}
