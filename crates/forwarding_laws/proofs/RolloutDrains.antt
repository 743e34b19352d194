-- Behind a drain no packet travels, so each that entered has ended.
use Rattle.std.proofs.Common.{[], ◌++◌, ◌==◌, ◌||◌, ◌∙◌, ◌∷◌, ◌≡◌, ◌≤◌, ◌⊎◌, Bool, List, None, Option, Some, ap, append-nil, append_assoc, arith, drop, eq-eqb, eqb-true, false, filter, if◌then◌else◌, inl, inr, length, max, nat_le, nat_lt, option_and_then, option_map, refl, subst, suc, sym, take, true, unwrap_or, zero, ℕ}
use Rattle.base.proofs.Exports.{list_any, nat_tests, option_or}
use Rattle.update_machine.specs.Exports.{Answers, AreJournalNumbersWithoutGap, JournalBeginsAnswer, Body, CacheEntry, CacheRule, Drain, Event, HasMachineCause, JournalItemsHaveCauses, Header, Hop, IsMachineSetting, Item, MachineLeavesRightly, Lose, OpenAt, Setting, Stamp, journal_body_to_switch, journal_boot_of, machine_cache_after, journal_cache_of, changes_journal_cache, machine_item_concerns_switch, machine_item_gives_travelling, heard, is_up, journal_last_given, journal_next_hop, next_travelling, machine_packet_number, journal_packets, journal_present_step, machine_version_to_stamp_with, journal_stamp_of, machine_touched_by, travels_in_journal}
use Rattle.switch_table.specs.Exports.{CacheValue, cache_after_carry, carried_cache_entry, is_cache_entry_carried, newest_cache_entries, same_cache_key, cache_entry_under}
use Rattle.ternary.specs.Exports.{WordValue}
use Rattle.update_machine.proofs.Exports.{answers_so_far, begins_itself, folded_append, start_laws, switch_keeps}
use Rattle.control_laws.specs.Exports.{AreControlNetworkEvents, HasControlItemCause, ControlLawHoldsReached}
use Rattle.control_laws.proofs.Exports.{AreKept, Both, boot_more, fact_on, have_both, heard_more, raised, stamp_told, up_more}
use Rattle.convergence_laws.proofs.Exports.{IsIn, contains_in, in_at, in_either, in_flat_map, in_right, last_ends, none_found, of_filter, of_filter_map}
use Rattle.packet_laws.specs.Exports.{IsPacketDroppedHere, HasPacketItemCause}
use Rattle.forwarding_laws.specs.Exports.{RolloutAccountsForAll, RolloutAccountedOrCutOff, ForwardingDropsNothing, RolloutEndsOrIsCutOff, RolloutEndsRightly, RolloutHasItem, IsConnectedForwardingNetwork, ForwardedIsDroppedRightly, IsForwardingStuckCutOff, NoneIsStuck, NothingFailsInRollout}

-- ---- the entries of a cache are of the stamp of its switch, or of later versions

-- the entries are of this version or of later ones
abbrev AreFrom : ℕ → List CacheEntry → Type 0
AreFrom stamp entries = (entry : CacheEntry) → IsIn entry entries → stamp ≤ entry.version

pub record AreCachesAbove (setting : Setting) (journal : List Item) : Type 0 where
  pub each : (s : ℕ) (entry : CacheEntry) → IsIn entry (journal_cache_of setting journal s).entries
      → journal_stamp_of journal s ≤ entry.version

-- ---- parts of lists

of_take : {X : Type 0} (x : X) (n : ℕ) (xs : List X) → IsIn x (take n xs) → IsIn x xs
of_take x zero xs is = absurd is
of_take x (suc n) [] is = absurd is
of_take x (suc n) (y ∷ xs) is = elim is [
  | inl here ↦ inl here
  | inr later ↦ inr (of_take x n xs later)
]

of_drop : {X : Type 0} (x : X) (n : ℕ) (xs : List X) → IsIn x (drop n xs) → IsIn x xs
of_drop x zero xs is = is
of_drop x (suc n) [] is = absurd is
of_drop x (suc n) (y ∷ xs) is = inr (of_drop x n xs is)

of_newest : (capacity : ℕ) (entry : CacheEntry) (entries : List CacheEntry)
    → IsIn entry (newest_cache_entries capacity entries) → IsIn entry entries
of_newest capacity entry entries is = by_room (nat_lt capacity (length entries)) is where
  by_room : (b : Bool) → IsIn entry (if b then drop 1 entries else entries) → IsIn entry entries
  by_room true is = of_drop entry 1 entries is
  by_room false is = is

-- ---- what is said to a switch

-- what a body makes of a cache whose entries are from the stamp on
said_from : (touched_of : ℕ → List WordValue) (stamp number : ℕ) (cache : CacheValue) (body : Body)
    → AreFrom stamp cache.entries → let now = raised stamp (machine_version_to_stamp_with body) in
    AreFrom now (machine_cache_after touched_of stamp now number cache body).entries
said_from touched_of stamp number cache (CacheRule version word rule action) from =
    by_old (nat_lt version stamp) refl
  where
    entry : CacheEntry
    entry = record {
      version = version;
      word = word;
      rule = rule;
      action = action;
      message = number;
    }

    by_old : (b : Bool) → nat_lt version stamp ≡ b → AreFrom stamp
        (if b || list_any (same_cache_key entry) cache.entries then cache else record cache {
          entries = newest_cache_entries cache.capacity (cache.entries ++ entry ∷ []);
        }).entries
    by_old true e = from
    by_old false e = by_key (list_any (same_cache_key entry) cache.entries) where
      by_key : (b : Bool) → AreFrom stamp (if b then cache else record cache {
        entries = newest_cache_entries cache.capacity (cache.entries ++ entry ∷ []);
      }).entries
      by_key true = from
      by_key false = λ other is. elim (in_either other cache.entries
          (entry ∷ []) (of_newest cache.capacity other (cache.entries ++ entry ∷ []) is)) [
            | inl old ↦ from other old
            | inr new ↦ elim new [
              | inl same ↦ subst (λ (x : CacheEntry). stamp ≤ x.version) same
                  (grind (arith, nat_tests))
              | inr none ↦ absurd none
            ]
          ]
said_from touched_of stamp number cache (OpenAt boot version) from =
    by_raise (nat_lt stamp (max stamp version)) refl
  where
    now : ℕ
    now = max stamp version

    by_raise : (b : Bool) → nat_lt stamp (max stamp version) ≡ b
        → AreFrom (max stamp version) (if b then record cache {
          entries = filter (λ entry. nat_le (max stamp version) entry.version) cache.entries;
        } else cache).entries
    by_raise true e = λ entry is.
        let passes = (of_filter (λ (entry : CacheEntry). nat_le (max stamp version) entry.version)
        entry cache.entries is).1 in
        grind (arith, nat_tests)
    by_raise false e = λ entry is. let old = from entry is in
        let same : max stamp version ≡ stamp = grind (arith, nat_tests) in omega (arith, old, same)
said_from touched_of stamp number cache (Stamp boot version touched) from =
    by_raise (nat_lt stamp version) refl
  where
    by_raise : (b : Bool) → nat_lt stamp version ≡ b → AreFrom (max stamp version)
        (if b then cache_after_carry version (touched_of version) cache else cache).entries
    by_raise true e = λ entry is.
        let found = of_filter_map (carried_cache_entry version (touched_of version) cache.entries) entry
        cache.entries is in
        let same : max stamp version ≡ version = grind (arith, nat_tests) in
        omega (arith, same, carried found.0 entry found.2)
      where
        carried : (old entry : CacheEntry)
            → carried_cache_entry version (touched_of version) cache.entries old ≡ Some entry
            → version ≤ entry.version
        carried old entry is = by_version (nat_le version old.version) refl
            (is_cache_entry_carried version (touched_of version) cache.entries old) is
          where
            by_version : (b : Bool) → nat_le version old.version ≡ b → (c : Bool)
                → (if b then Some old else if c then Some (cache_entry_under version old) else None)
                ≡ Some entry → version ≤ entry.version
            by_version true e c is = let same : old ≡ entry = cc in
                subst (λ (x : CacheEntry). version ≤ x.version) same (grind (arith, nat_tests))
            by_version false e true is = let same : cache_entry_under version old ≡ entry = cc in
                subst (λ (x : CacheEntry). version ≤ x.version) same (omega arith)
            by_version false e false is = absurd cc
    by_raise false e = λ entry is. let old = from entry is in
        let same : max stamp version ≡ stamp = grind (arith, nat_tests) in omega (arith, old, same)
said_from touched_of stamp number cache body from = from

-- ---- items

-- an entry is of what the item makes of the cache before it
entry_back : (setting : Setting) (before : List Item) (next : Item) (s : ℕ) (entry : CacheEntry)
    → IsIn entry (journal_cache_of setting (before ++ next ∷ []) s).entries
    → IsIn entry (changes_journal_cache setting s before (journal_cache_of setting before s) next).entries
unfolding journal_cache_of
entry_back setting before next s entry = subst (λ (cache : CacheValue). IsIn entry cache.entries)
    (folded_append (changes_journal_cache setting s) (record { entries = []; capacity = setting.net.cache })
    before (next ∷ []))

-- an item that ends no boot, begins none and delivers nothing leaves the stamp
stamp_same : (before : List Item) (next : Item) (s : ℕ) → heard (before ++ next ∷ []) s
    ≡ heard before s → is_up (before ++ next ∷ []) s ≡ is_up before s
    → journal_boot_of (before ++ next ∷ []) s ≡ journal_boot_of before s
    → journal_stamp_of (before ++ next ∷ []) s ≡ journal_stamp_of before s
unfolding journal_stamp_of
stamp_same before next s bodies up boot = rw (bodies, up, boot) refl

-- what concerns the switch
concerned_above : (setting : Setting) (before : List Item) (next : Item) (s : ℕ) → machine_item_concerns_switch s
    before next ≡ true → AreFrom (journal_stamp_of before s) (journal_cache_of setting before s).entries
    → AreFrom (journal_stamp_of (before ++ next ∷ []) s) (journal_cache_of setting (before ++ next ∷ []) s).entries
concerned_above setting before (Item.Down t) s is from = λ entry has.
    let none : IsIn entry [] = rw is at (entry_back setting before (Item.Down t) s entry has) in absurd none
concerned_above setting before (Item.Booted t boot) s is from = λ entry has.
    absurd (rw is at (entry_back setting before (Item.Booted t boot) s entry has))
concerned_above setting before (Item.Opened t version) s is from = λ entry has.
    let next : Item = Item.Opened t version in
    let same = stamp_same before next s (heard_more before next s) (up_more before next s)
    (boot_more before next s) in
    omega (arith, from entry (entry_back setting before next s entry has), same)
concerned_above setting before (Item.Expired t place message) s is from = λ entry has.
    let next : Item = Item.Expired t place message in
    let entries : List CacheEntry = (journal_cache_of setting before s).entries in
    let parts : IsIn entry (take place entries ++ drop (suc place) entries) =
    rw is at (entry_back setting before next s entry has) in
    let old = from entry (elim (in_either entry (take place entries) (drop (suc place) entries) parts) [
      | inl front ↦ of_take entry place entries front
      | inr rest ↦ of_drop entry (suc place) entries rest
    ]) in
    let same = stamp_same before next s (heard_more before next s) (up_more before next s)
    (boot_more before next s) in
    omega (arith, old, same)
concerned_above setting before (Item.Delivered number) s is from =
    by_said (journal_body_to_switch before s number) refl
  where
    next : Item
    next = Item.Delivered number

    now : ℕ
    now = journal_stamp_of (before ++ next ∷ []) s

    by_said : (o : Option Body) → journal_body_to_switch before s number ≡ o
        → AreFrom now (journal_cache_of setting (before ++ next ∷ []) s).entries
    by_said None e entry has =
        let same : now ≡ journal_stamp_of before s = stamp_told before number s
        ∙ ap (λ o. raised (journal_stamp_of before s) (option_and_then machine_version_to_stamp_with o)) e in
        omega (arith, from entry (rw e at (entry_back setting before next s entry has)), same)
    by_said (Some body) e entry has =
        let same = stamp_told before number s
        ∙ ap (λ o. raised (journal_stamp_of before s) (option_and_then machine_version_to_stamp_with o)) e in
        let above = said_from (machine_touched_by setting before) (journal_stamp_of before s) number
        (journal_cache_of setting before s) body from entry
        (subst (λ n. IsIn entry (machine_cache_after (machine_touched_by setting before) (journal_stamp_of before s) n
        number (journal_cache_of setting before s) body).entries) same
        (rw e at (entry_back setting before next s entry has))) in
        omega (arith, above, same)
concerned_above setting before next s is from = absurd cc

caches_on : (setting : Setting) → AreKept (HasControlItemCause setting) (AreCachesAbove setting)
caches_on setting before next cause are = record {
  each = λ s. by_concern s (machine_item_concerns_switch s before next) refl;
} where
  by_concern : (s : ℕ) (b : Bool) → machine_item_concerns_switch s before next ≡ b
      → AreFrom (journal_stamp_of (before ++ next ∷ []) s) (journal_cache_of setting (before ++ next ∷ []) s).entries
  by_concern s true e = concerned_above setting before next s e (are.each s)
  by_concern s false e = λ entry has.
      let keeps = switch_keeps setting s before (next ∷ []) (e, tt) in
      let old = are.each s entry
      (subst (λ (cache : CacheValue). IsIn entry cache.entries) keeps.cache has) in
      omega (arith, old, keeps.stamp)

pub caches_above : (setting : Setting) (journal : List Item)
    → JournalItemsHaveCauses (HasControlItemCause setting) [] journal → AreCachesAbove setting journal
caches_above setting journal causes = fact_on (HasControlItemCause setting) (AreCachesAbove setting)
    (caches_on setting) [] journal causes (record {
      each = λ s entry has. absurd (rw (start_laws.cache setting s) at has);
    })

-- ---- each item of a journal has its cause behind those that stand before it

-- the item is among these, and has this property after those before it
pub record Stands (is : List Item → Item → Type 0) (before items : List Item) (x : Item)
    : Type 0 where
  pub front : List Item
  pub rest : List Item
  pub split : items ≡ front ++ x ∷ rest
  pub own : is (before ++ front) x

pub stands_in : (is : List Item → Item → Type 0) (before items : List Item) (x : Item)
    → JournalItemsHaveCauses is before items → IsIn x items → Stands is before items x
stands_in is before [] x have there = absurd there
stands_in is before (y ∷ items) x have there = elim there [
  | inl here ↦ record {
    front = [];
    rest = items;
    split = ap (λ z. z ∷ items) here;
    own = subst (λ js. is js x) (sym (append-nil before)) (subst (is before) here have.0);
  }
  | inr later ↦ let at = stands_in is (before ++ y ∷ []) items x have.1 later in record {
    front = y ∷ at.front;
    rest = at.rest;
    split = ap (λ zs. y ∷ zs) at.split;
    own = subst (λ js. is js x) (append_assoc before (y ∷ []) at.front) at.own;
  }
]

-- ---- drained accounts

-- ---- what items tell last

given_by : {X : Type 0} (tells : Item → Option X) (x : X) (items : List Item)
    → journal_last_given tells items ≡ Some x → (y : Item) × IsIn y items × (tells y ≡ Some x)
given_by tells x [] is = absurd cc
given_by {X = X} tells x (first ∷ items) is =
    by_last (journal_last_given tells items) refl is (given_by tells x items)
  where
    by_last : (o : Option X) → journal_last_given tells items ≡ o → option_or o (tells first) ≡ Some x
        → (journal_last_given tells items ≡ Some x → (y : Item) × IsIn y items × (tells y ≡ Some x))
        → (y : Item) × IsIn y (first ∷ items) × (tells y ≡ Some x)
    by_last None e is rest = (first, inl refl, is)
    by_last (Some z) e is rest = let found = rest (e ∙ is) in (found.0, inr found.1, found.2)

told_some : {X : Type 0} (tells : Item → Option X) (x : X) (y : Item) (items : List Item)
    → IsIn y items → tells y ≡ Some x → journal_last_given tells items ≡ None → ⊥
told_some tells x y [] is told none = absurd is
told_some {X = X} tells x y (first ∷ items) is told none =
    by_last (journal_last_given tells items) refl none is (told_some tells x y items)
  where
    by_last : (o : Option X) → journal_last_given tells items ≡ o → option_or o (tells first) ≡ None
        → (first ≡ y) ⊎ IsIn y items
        → (IsIn y items → tells y ≡ Some x → journal_last_given tells items ≡ None → ⊥) → ⊥
    by_last (Some z) e none is rest = absurd cc
    by_last None e none (inl here) rest =
        let clash : None ≡ Some x = sym none ∙ ap tells here ∙ told in absurd cc
    by_last None e none (inr later) rest = rest later told e

-- ---- how a packet ended

-- what is known of an item
abbrev IsKnownEnd : Setting → List Item → Item → Type 0
IsKnownEnd setting = Both (HasPacketItemCause setting) (Both (HasMachineCause setting) (ForwardingDropsNothing setting))

same_number : (packet i : ℕ) → (if packet == i then Some false else None) ≡ Some false → packet ≡ i
same_number packet i ends = by_test (packet == i) refl ends where
  by_test : (b : Bool) → (packet == i) ≡ b → (if b then Some false else None) ≡ Some false
      → packet ≡ i
  by_test true e ends = eqb-true packet i e
  by_test false e ends = absurd cc

-- by the item that ended it
ends_so : (setting : Setting) (i : ℕ) (before : List Item) (x : Item) → IsKnownEnd setting before x
    → machine_item_gives_travelling i x ≡ Some false → RolloutEndsOrIsCutOff setting i before x
ends_so setting i before (Item.Entered packet switch header) known ends =
    absurd (by_test (packet == i) ends)
  where
    by_test : (b : Bool) → (if b then Some true else None) ≡ Some false → ⊥
    by_test true e = absurd cc
    by_test false e = absurd cc
ends_so setting i before (Item.Dropped packet) known ends =
    let dropped : IsPacketDroppedHere before packet = known.first in
    let own : ForwardedIsDroppedRightly before packet =
    record { decision = dropped.decision; decided = dropped.decided; drops = dropped.action } in
    let same = same_number packet i ends in (same, subst (ForwardedIsDroppedRightly before) same own)
ends_so setting i before (Item.Left packet port leaving) known ends =
    let same = same_number packet i ends in
    (same, subst (λ n. MachineLeavesRightly setting before n port leaving) same known.second.first)
ends_so setting i before (Item.Lost packet) known ends = let same = same_number packet i ends in
    (same, subst (λ n. journal_present_step before ≡ Some (Lose n)) same known.second.second)
ends_so setting i before (Item.Stuck packet switch cause leg down) known ends =
    let same = same_number packet i ends in
    (same, subst (λ n. IsForwardingStuckCutOff setting before n switch leg) same known.second.second)
ends_so setting i before x known ends = absurd cc

-- a packet that entered and doesn't travel has ended
entered_ended : (setting : Setting) (journal : List Item) (i s : ℕ) (header : Header)
    → JournalItemsHaveCauses (IsKnownEnd setting) [] journal → IsIn (Item.Entered i s header) journal
    → travels_in_journal journal i ≡ false → RolloutHasItem (RolloutEndsOrIsCutOff setting i) journal
unfolding travels_in_journal
entered_ended setting journal i s header known is ended =
    by_last (journal_last_given (machine_item_gives_travelling i) journal) refl ended
  where
    came : machine_item_gives_travelling i (Item.Entered i s header) ≡ Some true
    came = ap (λ b. if b then Some true else None) (eq-eqb i i refl)

    by_last : (o : Option Bool) → journal_last_given (machine_item_gives_travelling i) journal ≡ o
        → unwrap_or o false ≡ false → RolloutHasItem (RolloutEndsOrIsCutOff setting i) journal
    by_last None e ended =
        absurd (told_some (machine_item_gives_travelling i) true (Item.Entered i s header) journal is came e)
    by_last (Some true) e ended = absurd cc
    by_last (Some false) e ended =
        let last = given_by (machine_item_gives_travelling i) false journal e in
        let at = stands_in (IsKnownEnd setting) [] journal last.0 known last.1 in record {
          before = at.front;
          found = last.0;
          rest = at.rest;
          stands = at.split;
          own = ends_so setting i at.front last.0 at.own last.2;
        }

-- where none is stuck it wasn't cut off
not_cut_off : (setting : Setting) (i : ℕ) (journal before : List Item) (x : Item)
    (rest : List Item) → NoneIsStuck journal → journal ≡ before ++ x ∷ rest
    → RolloutEndsOrIsCutOff setting i before x → RolloutEndsRightly setting i before x
not_cut_off setting i journal before (Item.Stuck packet switch cause leg down) rest none stands
    own =
    let stuck : Item = Item.Stuck packet switch cause leg down in
    absurd (none packet switch cause leg down (contains_in stuck journal
    (subst (IsIn stuck) (sym stands) (in_right stuck before (stuck ∷ rest) (inl refl)))))
not_cut_off setting i journal before x rest none stands own = own

-- ---- behind a drain

none_hops : (journal : List Item) → journal_next_hop journal ≡ None → next_travelling journal ≡ None
none_hops journal none = by_next (next_travelling journal) none where
  by_next : (o : Option ℕ) → option_map Hop o ≡ None → o ≡ None
  by_next None e = refl
  by_next (Some i) e = absurd cc

none_travels : (journal : List Item) (i s : ℕ) (header : Header) → AreJournalNumbersWithoutGap journal
    → next_travelling journal ≡ None → IsIn (Item.Entered i s header) journal
    → travels_in_journal journal i ≡ false
unfolding next_travelling
none_travels journal i s header numbered none is = none_found (travels_in_journal journal) i
    (journal_packets journal) none (rw numbered.packets at
    (in_flat_map machine_packet_number (Item.Entered i s header) i journal is (inl refl)))

abbrev Reaches : (Setting → List Item → Item → Type 0) → Type 0
Reaches cause = ControlLawHoldsReached (λ setting journal.
    IsMachineSetting setting → JournalItemsHaveCauses (cause setting) [] journal)

pub accounted_or_cut_off : ((setting : Setting) (events : List Event) (journal : List Item)
    → JournalBeginsAnswer setting events journal → AreJournalNumbersWithoutGap journal) → Reaches HasPacketItemCause
    → Reaches HasMachineCause → ((setting : Setting) (events : List Event) (journal : List Item)
    → IsMachineSetting setting → AreControlNetworkEvents setting events → NothingFailsInRollout events
    → JournalBeginsAnswer setting events journal → JournalItemsHaveCauses (ForwardingDropsNothing setting) [] journal)
    → (setting : Setting) (events : List Event) (journal : List Item) → IsMachineSetting setting
    → AreControlNetworkEvents setting (events ++ Drain ∷ []) → NothingFailsInRollout (events ++ Drain ∷ [])
    → Answers setting (events ++ Drain ∷ []) journal → RolloutAccountedOrCutOff setting journal
accounted_or_cut_off number packets ends drops setting events journal is own nothing answers i s
    header found = entered_ended setting journal i s header known there
    (none_travels journal i s header (number setting asked journal begins)
    (none_hops journal (rw answers.written (last_ends setting journal_next_hop Drain
    (λ row before steps are. are) 1 events [] answers.steps answers.allowed))) there)
  where
    asked : List Event
    asked = events ++ Drain ∷ []

    begins : JournalBeginsAnswer setting asked journal
    begins = begins_itself setting asked journal (answers_so_far setting asked journal answers)

    known : JournalItemsHaveCauses (IsKnownEnd setting) [] journal
    known = have_both (HasPacketItemCause setting) (Both (HasMachineCause setting) (ForwardingDropsNothing setting)) []
        journal (packets.begun setting asked journal own begins is) (have_both (HasMachineCause setting)
        (ForwardingDropsNothing setting) [] journal (ends.begun setting asked journal own begins is)
        (drops setting asked journal is own nothing begins))

    there : IsIn (Item.Entered i s header) journal
    there = in_at journal found.0 (Item.Entered i s header) found.1 found.2

pub all_accounted : ((setting : Setting) (events : List Event) (journal : List Item)
    → IsMachineSetting setting → AreControlNetworkEvents setting events → NothingFailsInRollout events → IsConnectedForwardingNetwork setting.net
    → JournalBeginsAnswer setting events journal → NoneIsStuck journal)
    → ((setting : Setting) (events : List Event) (journal : List Item) → IsMachineSetting setting
    → AreControlNetworkEvents setting (events ++ Drain ∷ []) → NothingFailsInRollout (events ++ Drain ∷ [])
    → Answers setting (events ++ Drain ∷ []) journal → RolloutAccountedOrCutOff setting journal)
    → (setting : Setting) (events : List Event) (journal : List Item) → IsMachineSetting setting
    → AreControlNetworkEvents setting (events ++ Drain ∷ []) → NothingFailsInRollout (events ++ Drain ∷ [])
    → IsConnectedForwardingNetwork setting.net → Answers setting (events ++ Drain ∷ []) journal
    → RolloutAccountsForAll setting journal
all_accounted none_stuck account setting events journal is own nothing connected answers i s header
    found =
    let end = account setting events journal is own nothing answers i s header found in record {
      before = end.before;
      found = end.found;
      rest = end.rest;
      stands = end.stands;
      own = not_cut_off setting i journal end.before end.found end.rest
          (none_stuck setting asked journal is own nothing connected
          (begins_itself setting asked journal (answers_so_far setting asked journal answers)))
          end.stands end.own;
    }
  where
    asked : List Event
    asked = events ++ Drain ∷ []
