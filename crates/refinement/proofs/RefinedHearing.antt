-- What a delivered message makes of the record of its switch.
use Rattle.std.proofs.Common.{[], ◌&&◌, ◌++◌, ◌==◌, ◌||◌, ◌∙◌, ◌∷◌, ◌≡◌, Bool, List, None, Option, Some, ap, arith, eq-eqb, false, if◌then◌else◌, max, nat_le, nat_lt, not, refl, sym, true, unwrap_or, ℕ}
use Rattle.base.proofs.Exports.{nat_tests, option_map_or, or_parts}
use Rattle.update_machine.specs.Exports.{Advertise, Body, Hello, Install, Installed, Item, NoMachineItemConcerns, OpenAt, Setting, Stamp, Stamped, Tables, journal_body_to_switch, journal_boot_of, machine_cache_after, journal_cache_of, changes_journal_cache, changes_journal_heard, machine_item_concerns_known, machine_item_concerns_links, machine_item_concerns_switch, machine_item_gives_boot, machine_item_gives_serving, machine_item_gives_switch_up, journal_handled_count, heard, is_journal_body_for_boot, is_up, journal_message_of, near, journal_own_seq, serves, journal_stamp_of, machine_message_to_switch, machine_touched_by}
use Rattle.switch_table.specs.Exports.{cache_after_carry, cache_after_expire, cache_after_raise}
use Rattle.update_machine.proofs.Exports.{calls_stay, fewer, folded_append, links_keep, switch_keeps}
use Rattle.control_laws.proofs.Exports.{boot_more, heard_more, serving_more, up_more}
use Rattle.refinement.proofs.RefinedSwitchHearing.{SaysTouched, heard_facts, hears_facts}
use Rattle.refinement.proofs.RefinedSwitchFacts.{AreVersioned, IsVersioned, SwitchFacts, by_facts, facts_of, stamp_by, switch_by, switch_is}
use Rattle.ctrl_msg.specs.Exports.{body_boot, is_body_for_controller}
use Rattle.failover.specs.Exports.{adverts_after_hearing}
use Rattle.switch_core.specs.Exports.{SwitchValue, switch_after_body, switch_collected_to, holds_version, is_news_to_switch, switch_obeys, switch_opened_by, switch_opening_stamp, switch_stamp_raised_to, switch_replies_to, switch_stamped_with, switch_after_advert, switch_with_installed, switch_with_message}
use Rattle.refinement.specs.Exports.{refined_switch_of}

-- ---- what one item makes of the facts of a switch

-- ---- items that concern neither the switch nor the links

-- they leave its facts as they are, except for the count of its calls
pub facts_kept : (setting : Setting) (s : ℕ) (before items : List Item)
    → NoMachineItemConcerns (machine_item_concerns_known s) before items → facts_of setting (before ++ items) s
    ≡ record (facts_of setting before s) { handled = journal_handled_count (before ++ items) s }
facts_kept setting s before items none =
    let own = switch_keeps setting s before items (fewer (machine_item_concerns_switch s) (machine_item_concerns_known s)
    (λ js item none. (or_parts (machine_item_concerns_switch s js item) (machine_item_concerns_links js item) none).0) before
    items none) in
    let links = links_keep setting before items (fewer machine_item_concerns_links (machine_item_concerns_known s)
    (λ js item none. (or_parts (machine_item_concerns_switch s js item) (machine_item_concerns_links js item) none).1) before
    items none) in
    let up = own.up in
    let serving = own.serving in
    let bodies = own.heard in
    let cache = own.cache in
    let seq = links.seq s in
    let near = links.near s in rw (own.boot, up, serving, bodies, cache, seq, near) refl

-- ---- the cache

cache_more : (setting : Setting) (before : List Item) (next : Item) (s : ℕ) → journal_cache_of setting
    (before ++ next ∷ []) s ≡ changes_journal_cache setting s before (journal_cache_of setting before s) next
unfolding journal_cache_of
cache_more setting before next s = folded_append (changes_journal_cache setting s)
    (record { entries = []; capacity = setting.net.cache }) before (next ∷ [])

-- the facts behind one more item, each by its own fold
pub facts_more : (setting : Setting) (before : List Item) (next : Item) (s : ℕ)
    → let now = before ++ next ∷ [] in
    facts_of setting now s
    ≡ record {
      boot = unwrap_or (machine_item_gives_boot s next) (journal_boot_of before s);
      up = unwrap_or (machine_item_gives_switch_up s next) (is_up before s);
      serving = unwrap_or (machine_item_gives_serving s next) (serves before s);
      bodies = changes_journal_heard s before (heard before s) next;
      cache = changes_journal_cache setting s before (journal_cache_of setting before s) next;
      seq = journal_own_seq setting now s;
      links = near setting now s;
      handled = journal_handled_count now s;
    }
facts_more setting before next s = rw (boot_more, up_more, serving_more, heard_more, cache_more)
    refl

-- ---- a delivery

stamp_is : (journal : List Item) (s : ℕ)
    → journal_stamp_of journal s ≡ stamp_by (is_up journal s && journal_boot_of journal s == 1) (heard journal s)
unfolding journal_stamp_of
stamp_is journal s = refl

-- a message that says nothing to the switch leaves its facts, and a body that is said is heard
pub facts_delivered : (setting : Setting) (before : List Item) (s n : ℕ) (said : Option Body)
    → journal_body_to_switch before s n ≡ said → let w = facts_of setting before s in
    facts_of setting (before ++ Item.Delivered n ∷ []) s
    ≡ option_map_or
    (λ body. heard_facts (machine_touched_by setting before) n body (w.up && w.boot == 1) w) said w
facts_delivered setting before s n said is =
    let next : Item = Item.Delivered n in
    let now : List Item = before ++ next ∷ [] in
    let boot : journal_boot_of now s ≡ journal_boot_of before s = boot_more before next s in
    let up : is_up now s ≡ is_up before s = up_more before next s in
    let serving : serves now s ≡ serves before s = serving_more before next s in
    let keep = links_keep setting before (next ∷ []) (refl, tt) in
    let near : near setting now s ≡ near setting before s = keep.near s in
    let handled : journal_handled_count now s ≡ journal_handled_count before s =
    calls_stay s before (next ∷ []) (refl, tt) in
    let bodies : heard now s
    ≡ option_map_or (λ body. heard before s ++ body ∷ []) said (heard before s) =
    heard_more before next s
    ∙ ap (λ o. option_map_or (λ body. heard before s ++ body ∷ []) o (heard before s)) is in
    let cache : journal_cache_of setting now s
    ≡ option_map_or (machine_cache_after (machine_touched_by setting before) (journal_stamp_of before s) (journal_stamp_of now s) n
    (journal_cache_of setting before s)) said (journal_cache_of setting before s) = cache_more setting before next s
    ∙ ap (λ o. option_map_or (machine_cache_after (machine_touched_by setting before) (journal_stamp_of before s)
    (journal_stamp_of now s) n (journal_cache_of setting before s)) o (journal_cache_of setting before s)) is in
    let stamp : journal_stamp_of now s ≡ stamp_by (is_up before s && journal_boot_of before s == 1)
    (option_map_or (λ body. heard before s ++ body ∷ []) said (heard before s)) =
    stamp_is now s ∙ rw (up, boot, bodies) refl in
    let earlier = stamp_is before s in
    rw (boot, up, serving, keep.seq s, near, handled, bodies, cache, stamp, earlier) (by_said said)
  where
    w : SwitchFacts
    w = facts_of setting before s

    first : Bool
    first = w.up && w.boot == 1

    by_said : (said : Option Body) → record w {
      bodies = option_map_or (λ body. w.bodies ++ body ∷ []) said w.bodies;
      cache = option_map_or (machine_cache_after (machine_touched_by setting before)
          (stamp_by first w.bodies) (stamp_by first (option_map_or (λ body. w.bodies ++ body ∷ []) said w.bodies)) n w.cache) said
          w.cache;
    }
        ≡ option_map_or (λ body. heard_facts (machine_touched_by setting before) n body first w) said w
    by_said None = refl
    by_said (Some body) = refl

-- ---- an opening

-- it serves, and the links may be others
pub facts_opened : (setting : Setting) (before : List Item) (s v : ℕ)
    → let now = before ++ Item.Opened s v ∷ [] in
    facts_of setting now s
    ≡ record (facts_of setting before s) {
      serving = true;
      seq = journal_own_seq setting now s;
      links = near setting now s;
    }
facts_opened setting before s v = let next : Item = Item.Opened s v in
    facts_more setting before next s
    ∙ rw (eq-eqb s s refl, calls_stay s before (next ∷ []) (refl, tt)) refl

-- ---- an expiry

pub facts_expired : (setting : Setting) (before : List Item) (s place message : ℕ)
    → facts_of setting (before ++ Item.Expired s place message ∷ []) s
    ≡ record (facts_of setting before s) { cache = cache_after_expire place (journal_cache_of setting before s) }
facts_expired setting before s place message =
    let next : Item = Item.Expired s place message in
    let keep = links_keep setting before (next ∷ []) (refl, tt) in
    facts_more setting before next s
    ∙ rw (eq-eqb s s refl, keep.seq s, keep.near s, calls_stay s before (next ∷ []) (refl, tt)) refl

-- ---- refined hearing

-- ---- what is obeyed

-- the switch is up, and the body is of its boot if it carries one
abbrev pub is_meant : List Item → ℕ → Body → Bool
is_meant before s body = is_up before s && is_journal_body_for_boot (journal_boot_of before s) body

-- upon a body for the controller nothing is done that isn't done anyway
pub by_obeying : {X : Type 0} (switch : SwitchValue) (body : Body) (up own : Bool)
    (obeyed left_so : X)
    → switch.is_up ≡ up → option_map_or (λ boot. boot == switch.boot) (body_boot body) true ≡ own
    → (is_body_for_controller body ≡ true → obeyed ≡ left_so)
    → (if switch_obeys switch body then obeyed else left_so) ≡ (if up && own then obeyed else left_so)
unfolding switch_obeys
by_obeying {X = X} switch body up own obeyed left_so is mine same =
    rw (is, mine) (by_kind up own (is_body_for_controller body) same)
  where
    by_kind : (up own kind : Bool) → (kind ≡ true → obeyed ≡ left_so) → (if (up && not kind)
        && own then obeyed else left_so) ≡ (if up && own then obeyed else left_so)
    by_kind true true true same = sym (same refl)
    by_kind true true false same = refl
    by_kind true false true same = refl
    by_kind true false false same = refl
    by_kind false own kind same = refl

pub controller_kept : (switch : SwitchValue) (n : ℕ) (body : Body) → is_body_for_controller body ≡ true
    → switch_after_body switch n body ≡ switch
controller_kept switch n (Hello s boot) is = refl
controller_kept switch n (Installed s boot version) is = refl
controller_kept switch n (Stamped s boot version) is = refl
controller_kept switch n _ is = absurd cc

pub controller_silent : (switch : SwitchValue) (near : ℕ) (body : Body)
    → is_body_for_controller body ≡ true → switch_replies_to switch near body ≡ []
controller_silent switch near (Hello s boot) is = refl
controller_silent switch near (Installed s boot version) is = refl
controller_silent switch near (Stamped s boot version) is = refl
controller_silent switch near _ is = absurd cc

pub controller_shut : (switch : SwitchValue) (body : Body) → is_body_for_controller body ≡ true
    → switch_opened_by switch body ≡ None
controller_shut switch (OpenAt boot version) is = absurd cc
controller_shut switch _ is = refl

pub obeyed_by : (switch : SwitchValue) (n : ℕ) (body : Body) (up own : Bool)
    → switch.is_up ≡ up → option_map_or (λ boot. boot == switch.boot) (body_boot body) true ≡ own
    → switch_with_message switch n body ≡ (if up && own then switch_after_body switch n body else switch)
unfolding switch_with_message
obeyed_by switch n body up own is mine = by_obeying switch body up own (switch_after_body switch n body)
    switch is mine (controller_kept switch n body)

-- a message that was sent to the switch says its body where it is meant
pub said_is : (before : List Item) (s n : ℕ) (body : Body)
    → journal_message_of before n ≡ Some (machine_message_to_switch s body)
    → journal_body_to_switch before s n ≡ (if is_meant before s body then Some body else None)
said_is before s n body sent = rw (sent, eq-eqb s s refl, journal_body_to_switch) refl

-- ---- the record

-- the switch once it heard the body, open or closed as it was
abbrev hears_shut : ℕ → Body → SwitchValue → SwitchValue
hears_shut n body switch = record (switch_with_message switch n body) { is_open = switch.is_open }

pub heard_is : (setting : Setting) (before : List Item) (n s : ℕ) (body : Body)
    → journal_message_of before n ≡ Some (machine_message_to_switch s body) → AreVersioned (heard before s)
    → IsVersioned body → SaysTouched (machine_touched_by setting before) body
    → refined_switch_of setting (before ++ Item.Delivered n ∷ []) s
    ≡ record (switch_with_message (refined_switch_of setting before s) n body) {
      is_open = (refined_switch_of setting before s).is_open;
    }
heard_is setting before n s body sent olds new says =
    cc (by_meant (is_meant before s body) refl, switch_is setting before s)
  where
    now : List Item
    now = before ++ Item.Delivered n ∷ []

    w : SwitchFacts
    w = facts_of setting before s

    switch : SwitchValue
    switch = switch_by setting s w

    obeyed : (meant : Bool) → is_meant before s body ≡ meant
        → record (if meant then switch_after_body switch n body else switch) { is_open = w.serving }
        ≡ hears_shut n body switch
    obeyed meant is = ap (λ (after : SwitchValue). record after { is_open = w.serving })
        (ap (λ b. if b then switch_after_body switch n body else switch) (sym is) ∙ sym (obeyed_by switch n
        body (is_up before s) (is_journal_body_for_boot (journal_boot_of before s) body) refl refl))

    by_meant : (meant : Bool) → is_meant before s body ≡ meant
        → refined_switch_of setting now s ≡ hears_shut n body switch
    by_meant true is = by_facts setting now s _ (facts_delivered setting before s n (Some body)
        (said_is before s n body sent ∙ ap (λ b. if b then Some body else None) is))
        ∙ hears_facts setting (machine_touched_by setting before) s n w (w.up && w.boot == 1) body olds new
        says ∙ obeyed true is
    by_meant false is = by_facts setting now s _ (facts_delivered setting before s n None
        (said_is before s n body sent ∙ ap (λ b. if b then Some body else None) is))
        ∙ obeyed false is

-- ---- whether it opens

or_kept : (b : Bool) (switch : SwitchValue) (tables : Tables)
    → (if b then switch else record switch { tables = switch.tables ++ tables ∷ [] }).is_open
    ≡ switch.is_open
or_kept true switch tables = refl
or_kept false switch tables = refl

kept_by : (switch : SwitchValue) (n : ℕ) (body : Body) → switch_opened_by switch body ≡ None
    → (switch_after_body switch n body).is_open ≡ switch.is_open
unfolding switch_with_installed switch_stamp_raised_to switch_stamped_with switch_collected_to switch_after_advert
kept_by switch n (Install boot tables) shut =
    or_kept (holds_version switch tables.version || nat_le tables.version switch.collected) switch
    tables
kept_by switch n (OpenAt boot version) shut = by_open switch.is_open shut where
  by_open : (b : Bool) → (if b then None else Some (max switch.stamp version)) ≡ None → true ≡ b
  by_open true shut = refl
  by_open false shut = absurd cc
kept_by switch n (Stamp boot version touched) shut = by_test (nat_lt switch.stamp version) where
  by_test : (b : Bool) → (if b then record switch {
    stamp = version;
    cache = cache_after_carry version touched switch.cache;
  } else switch).is_open ≡ switch.is_open
  by_test true = refl
  by_test false = refl
kept_by switch n (Advertise advert) shut = by_test (is_news_to_switch switch advert) where
  by_test : (b : Bool) → (if b then record switch {
    database = adverts_after_hearing switch.database advert;
  } else switch).is_open ≡ switch.is_open
  by_test true = refl
  by_test false = refl
kept_by switch n _ shut = refl

-- a switch that doesn't open is open or closed as before
pub open_kept : (switch : SwitchValue) (n : ℕ) (body : Body) → switch_opening_stamp switch body ≡ None
    → (switch_with_message switch n body).is_open ≡ switch.is_open
unfolding switch_with_message switch_opening_stamp
open_kept switch n body shut = by_test (switch_obeys switch body) shut where
  by_test : (b : Bool) → (if b then switch_opened_by switch body else None) ≡ None
      → (if b then switch_after_body switch n body else switch).is_open ≡ switch.is_open
  by_test true shut = kept_by switch n body shut
  by_test false shut = refl

opens_by : (switch : SwitchValue) (n stamp : ℕ) (body : Body) → switch_opened_by switch body ≡ Some stamp
    → ((switch_after_body switch n body).is_open ≡ true) × (stamp ≡ (switch_after_body switch n body).stamp)
unfolding switch_stamp_raised_to
opens_by switch n stamp (OpenAt boot version) opens = (refl, by_open switch.is_open opens) where
  by_test : (b : Bool) → nat_lt switch.stamp version ≡ b → max switch.stamp version
      ≡ (if b then record switch {
        stamp = version;
        cache = cache_after_raise version switch.cache;
      } else switch).stamp
  by_test true is = grind (arith, nat_tests)
  by_test false is = grind (arith, nat_tests)

  by_open : (b : Bool) → (if b then None else Some (max switch.stamp version)) ≡ Some stamp
      → stamp ≡ (if nat_lt switch.stamp version then record switch {
        stamp = version;
        cache = cache_after_raise version switch.cache;
      } else switch).stamp
  by_open true opens = absurd cc
  by_open false opens = let same : max switch.stamp version ≡ stamp = cc in
      sym same ∙ by_test (nat_lt switch.stamp version) refl
opens_by switch n stamp _ opens = absurd cc

-- one that opens is open, with this stamp
pub opens_as : (switch : SwitchValue) (n stamp : ℕ) (body : Body) → switch_opening_stamp switch body
    ≡ Some stamp
    → ((switch_with_message switch n body).is_open ≡ true) × (stamp ≡ (switch_with_message switch n body).stamp)
unfolding switch_with_message switch_opening_stamp
opens_as switch n stamp body opens = by_test (switch_obeys switch body) opens where
  by_test : (b : Bool) → (if b then switch_opened_by switch body else None) ≡ Some stamp
      → ((if b then switch_after_body switch n body else switch).is_open ≡ true)
      × (stamp ≡ (if b then switch_after_body switch n body else switch).stamp)
  by_test true opens = opens_by switch n stamp body opens
  by_test false opens = absurd cc
