use Rattle.std.proofs.Common.{◌+◌, ◌-◌, ◌<◌, ◌^◌, ◌∙◌, ◌≡◌, IfSome, None, ap, arith, inr, slice_get, subst, sym, ℕ}
use Rattle.base.proofs.Exports.{length-map, same_Some, slice_get_within}
use Rattle.indexmap.proofs.CallerLemmas.{insert_entry-new}
use Rattle.indexmap.specs.IndexMap.{Updates, get}
use Rattle.switch_table.specs.Exports.{AreCacheSlotsNamed, SlotPair, equal_cache_keys, cache_live_flags_of, is_live_cache_slot, live_cache_pairs}
use Rattle.switch_table.proofs.CacheSlotPushes.{IsRekeyed, rekeyed, rekeyed_flags, rekeyed_pairs}
use Rattle.switch_table.specs.declared.key.CacheKey.{CacheKey}
use Rattle.switch_table.proofs.CacheSlotKeys.{named_absent, named_set}
use Rattle.switch_table.proofs.slots.vacate_cache_slot.Goals as goal
use Rattle.switch_table.proofs.slots.vacate_cache_slot.Goals.{After-swap_remove_index}

at_place : (at place : ℕ) → 0 + at ≡ place → at ≡ place
at_place at place here = omega (arith, here)

-- there is a slot at the place
within : (c : After-swap_remove_index) → c.args.place < 2 ^ 63
within c =
    omega (arith, slice_get_within, length-map c.args.map.now.entries is_live_cache_slot, c.requires.few)

-- the key of the place
new_key : (c : After-swap_remove_index) → CacheKey
new_key c = record { number = 2 ^ 64 - 1 - c.args.place; word = c.any.result }

absent : (c : After-swap_remove_index) → get equal_cache_keys c.args.map.now (new_key c) ≡ None
unfolding new_key
absent c = named_absent (new_key c) c.args.place 0 c.args.map.now.entries (omega (arith, within c))
    (within c) c.requires.named (λ at slot there here. c.requires.old slot
    (ap (slice_get c.args.map.now.entries) (sym (at_place at c.args.place here)) ∙ there))

made : (c : After-swap_remove_index) → IsRekeyed c.args.place (new_key c)
    c.swap_remove_index.result c.args.map.now.entries c.swap_remove_index.new.self.entries
unfolding new_key equal_cache_keys
made c = rekeyed c.args.place (new_key c) _ _ _ _ _ c.requires.dead c.index-slot.ensures
    (c.in_ok-insert.ensures.entries ∙ insert_entry-new _ c.args.map.now (new_key c) _ (absent c))
    c.swap_remove_index.ensures.entry c.swap_remove_index.ensures.entries

pub returns-clause-pairs : goal.returns-clause-pairs
returns-clause-pairs c =
    let here = (goal.at.returns-clause-pairs c).After-swap_remove_index in
    let is = made here in
    ap live_cache_pairs is.new_is
    ∙ rekeyed_pairs c.args.map.now.entries c.args.place is.pair (new_key here) is.at is.dead

pub returns-clause-flags : goal.returns-clause-flags
returns-clause-flags c =
    let here = (goal.at.returns-clause-flags c).After-swap_remove_index in
    let is = made here in
    ap cache_live_flags_of is.new_is
    ∙ rekeyed_flags c.args.map.now.entries c.args.place is.pair (new_key here) is.at

pub returns-clause-gone : goal.returns-clause-gone
unfolding equal_cache_keys
returns-clause-gone c = λ pair at.
    let is = made (goal.at.returns-clause-gone c).After-swap_remove_index in
    let new = c.swap_remove_index.new.self in
    let updated = subst
    (λ some. IfSome some (λ (p : SlotPair). Updates equal_cache_keys c.insert.new.self new p.0 None))
    is.taken_is c.swap_remove_index.ensures.updates in
    subst (λ (p : SlotPair). get equal_cache_keys new p.0 ≡ None)
    (same_Some is.pair pair (sym is.at ∙ at)) updated.1

pub returns-clause-named : goal.returns-clause-named
unfolding new_key
returns-clause-named c =
    let here = (goal.at.returns-clause-named c).After-swap_remove_index in
    let is = made here in
    subst (AreCacheSlotsNamed 0) (sym is.new_is)
    (named_set 0 c.args.map.now.entries c.args.place (new_key here, is.pair.1) c.requires.named
    (inr (omega (arith, within here), is.dead)))
