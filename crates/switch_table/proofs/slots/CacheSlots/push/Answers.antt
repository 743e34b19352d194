use Rattle.std.proofs.Common.{[], ◌++◌, ◌∙◌, ◌∷◌, ◌≡◌, List, ap, length, subst, sym, true, rules}
use Rattle.base.proofs.Exports.{length-map}
use Rattle.indexmap.proofs.CallerLemmas.{insert_entry-new}
use Rattle.switch_table.specs.Exports.{AreCacheSlots, SlotPair, equal_cache_keys, cache_live_flags_of, is_live_cache_slot, live_cache_pairs}
use Rattle.switch_table.proofs.CacheSlotPushes.{pushed_pairs, pushed_slots, with_counts}
use Rattle.switch_table.proofs.slots.CacheSlots.push.Goals as goal
use Rattle.switch_table.proofs.slots.CacheSlots.push.Goals.{In_ok-insert}

added : (c : In_ok-insert) → c.insert.new.self.entries ≡ c.release_switch_cache_key.new.map.entries
    ++ (c.args.key, record { learnt = c.args.learnt; is_live = true }) ∷ []
unfolding equal_cache_keys
added c = search (rules, insert_entry-new)

pub invariant_of-self : goal.invariant_of-self
invariant_of-self c = c.release_switch_cache_key.ensures.slots c.self.inside.live c.self.inside.first c.self.invariant

pub invariant_of-self-in_err-make_room : goal.invariant_of-self-in_err-make_room
invariant_of-self-in_err-make_room c =
    let are = c.release_switch_cache_key.ensures.slots c.self.inside.live c.self.inside.first c.self.invariant in
    with_counts _ _ _ _ are (c.make_room.ensures.kept _ are.counted)

pub invariant_of-self-in_err-insert : goal.invariant_of-self-in_err-insert
invariant_of-self-in_err-insert c =
    let are = c.release_switch_cache_key.ensures.slots c.self.inside.live c.self.inside.first c.self.invariant in
    subst (λ (slots : List SlotPair). AreCacheSlots c.make_room.new.self c.self.inside.first slots)
    (sym c.in_err-insert.ensures.err)
    (with_counts _ _ _ _ are (c.in_ok-make_room.ensures.kept _ are.counted))

pub invariant_of-self-2 : goal.invariant_of-self-2
invariant_of-self-2 c =
    let slots = c.release_switch_cache_key.new.map.entries in
    let are = c.release_switch_cache_key.ensures.slots c.self.inside.live c.self.inside.first c.self.invariant in
    subst (AreCacheSlots c.add.new.self c.self.inside.first)
    (sym (added (goal.at.invariant_of-self-2 c).In_ok-insert))
    (pushed_slots _ _ _ _ _ _ are
    (c.add.ensures (cache_live_flags_of slots) (c.in_ok-make_room.ensures.kept (cache_live_flags_of slots) are.counted)
    (ap length c.in_ok-release_switch_cache_key.ensures.flags ∙ length-map c.self.inside.map.entries is_live_cache_slot
    ∙ sym c.len-place.ensures.len)) c.requires.fits)

pub returns-clause-ok : goal.returns-clause-ok
returns-clause-ok c = ap live_cache_pairs (added (goal.at.returns-clause-ok c).In_ok-insert)
    ∙ pushed_pairs c.release_switch_cache_key.new.map.entries c.args.key c.args.learnt ∙ ap (λ pairs. pairs
    ++ (c.args.key, c.args.learnt) ∷ []) (c.in_ok-release_switch_cache_key.ensures.pairs ∙ c.self.view_is)
