use Rattle.std.proofs.Common.{◌<◌, ◌^◌, ◌∙◌, ◌≡◌, None, OnOk, subst, sym}
use Rattle.base.proofs.Exports.{both_ok, none_from_not_some, same_Some}
use Rattle.indexmap.specs.IndexMap.{get}
use Rattle.switch_table.specs.Exports.{SlotPair, equal_cache_keys}
use Rattle.switch_table.specs.declared.key.CacheKey.{CacheKey}
use Rattle.switch_table.proofs.CacheSlotPushes.{IsFound, equal_keys_same, found_at, found_dead, same_flags}
use Rattle.switch_table.proofs.slots.release_switch_cache_key.Goals as goal
use Rattle.switch_table.proofs.slots.release_switch_cache_key.Goals.{In-Some}

found : (c : In-Some) → IsFound c.args.key.now c.in-Some.dead c.args.map.now.entries
unfolding equal_cache_keys
found c = found_at c.args.key.now c.in-Some.dead c.args.map.now.entries (sym c.in-Some.ensures.index)

pub returns-in_default-clause-gone : goal.returns-in_default-clause-gone
unfolding equal_cache_keys
returns-in_default-clause-gone c = none_from_not_some _ (sym c.in_default.ensures.found)

pub vacate_cache_slot-requires-clause-dead : goal.vacate_cache_slot-requires-clause-dead
unfolding equal_cache_keys
vacate_cache_slot-requires-clause-dead c =
    found_dead c.args.key.now c.in-Some.dead c.args.map.now.entries
    (found (goal.at.vacate_cache_slot-requires-clause-dead c).In-Some) c.in-Some.ensures.unique c.requires.absent

pub vacate_cache_slot-requires-clause-old : goal.vacate_cache_slot-requires-clause-old
vacate_cache_slot-requires-clause-old c = λ pair at.
    let place = found (goal.at.vacate_cache_slot-requires-clause-old c).In-Some in
    subst (λ (p : SlotPair). p.0.number < 2 ^ 33) (same_Some place.pair pair (sym place.at ∙ at))
    (rw (equal_keys_same c.args.key.now place.pair.0 place.passes) at c.requires.fits)

pub returns-clause-slots : goal.returns-clause-slots
returns-clause-slots c = λ live first are.
    same_flags live first _ _ c.vacate_cache_slot.ensures.flags c.vacate_cache_slot.ensures.named are

pub returns-clause-gone : goal.returns-clause-gone
returns-clause-gone c = let place = found (goal.at.returns-clause-gone c).In-Some in
    subst (λ (key : CacheKey). OnOk c.vacate_cache_slot.result (get equal_cache_keys c.vacate_cache_slot.new.map key ≡ None))
    (sym (equal_keys_same c.args.key.now place.pair.0 place.passes))
    (both_ok c.vacate_cache_slot.result (λ gone again. gone place.pair place.at) c.vacate_cache_slot.ensures.gone
    c.vacate_cache_slot.ensures.gone)
