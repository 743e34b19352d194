use Rattle.std.proofs.Common.{◌∙◌, ◌≡◌, ap, arith, inl, inr, length, refl, remove, slice_get, subst, sym}
use Rattle.switch_table.specs.Exports.{AreCacheSlotsNamed, AreCacheSlots, is_live_cache_slot, live_cache_pairs}
use Rattle.switch_table.proofs.CacheSlotKeys.{named_kept}
use Rattle.switch_table.proofs.CacheSlotPushes.{count_live, swept_pairs, swept_slots}
use Rattle.switch_table.proofs.CacheSlotRemovals.{all_fit, nth_killed, nth_pair, slots_killed}
use Rattle.switch_table.proofs.slots.CacheSlots.remove.Goals as goal
use Rattle.switch_table.proofs.slots.CacheSlots.remove.Goals.{After-all, then-place-eq0, else-place-eq0}

pub live_cache_slot_place-at-requires-clause-some : goal.live_cache_slot_place-at-requires-clause-some
live_cache_slot_place-at-requires-clause-some c =
    omega (arith, c.len.ensures.len, ap length c.self.view_is, count_live c.self.inside.map.entries)

-- the slots once the one is dead
left : (c : After-all) → AreCacheSlots c.if-place-eq0.self-inside.live
    c.if-place-eq0.self-inside.first c.if-place-eq0.self-inside.map.entries
left c =
    let old = c.self.inside in
    let at = c.live_cache_slot_place-at.result in
    elim c.if-place-eq0.branch [
      | then-place-eq0 w ↦ rw w.self-inside-is (slots_killed old.live c.take.new.self old.first at
          c.args.place at old.map.entries c.kill_switch_cache_slot.new.map.entries c.self.invariant
          c.live_cache_slot_place-at.ensures c.kill_switch_cache_slot.ensures c.take.ensures
          (inl (w.if-place-eq0.true, refl)))
      | else-place-eq0 w ↦ rw w.self-inside-is (slots_killed old.live c.take.new.self old.first
          old.first c.args.place at old.map.entries c.kill_switch_cache_slot.new.map.entries c.self.invariant
          c.live_cache_slot_place-at.ensures c.kill_switch_cache_slot.ensures c.take.ensures (inr refl))
    ]

-- and its pairs
rest : (c : After-all) → live_cache_pairs c.if-place-eq0.self-inside.map.entries
    ≡ remove c.args.self.now c.args.place
rest c =
    let made = nth_killed c.self.inside.map.entries c.kill_switch_cache_slot.new.map.entries c.args.place
    c.live_cache_slot_place-at.result c.live_cache_slot_place-at.ensures c.kill_switch_cache_slot.ensures
    ∙ ap (λ pairs. remove pairs c.args.place) c.self.view_is in
    elim c.if-place-eq0.branch [
      | then-place-eq0 w ↦ rw w.self-inside-is made
      | else-place-eq0 w ↦ rw w.self-inside-is made
    ]

pub overflow_sub-len : goal.overflow_sub-len
overflow_sub-len c = let inside = c.if-place-eq0.self-inside in
    omega (
      arith,
      c.all.ensures,
      c.len-2.ensures.len,
      all_fit inside.live inside.map.entries (left c).counted,
    )

pub overflow_add-all : goal.overflow_add-all
overflow_add-all c = let inside = c.if-place-eq0.self-inside in
    omega (
      arith,
      c.all-2.ensures,
      c.len-2.ensures.len,
      c.len-2.ensures.small,
      all_fit inside.live inside.map.entries (left (goal.at.overflow_add-all c).After-all).counted,
    )

pub sweep_dead_cache_slots-requires : goal.sweep_dead_cache_slots-requires
sweep_dead_cache_slots-requires c = (left (goal.at.sweep_dead_cache_slots-requires c).After-all).counted

pub invariant_of-self : goal.invariant_of-self
invariant_of-self c = let are = left (goal.at.invariant_of-self c).After-all in
    swept_slots c.sweep_dead_cache_slots.new.live c.sweep_dead_cache_slots.new.map.entries c.sweep_dead_cache_slots.ensures.counts
    (subst (AreCacheSlotsNamed 0) (sym c.sweep_dead_cache_slots.ensures.slots)
    (named_kept is_live_cache_slot (λ slot is. is) 0 0 c.if-place-eq0.self-inside.map.entries are.named))

pub invariant_of-self-else-len-all : goal.invariant_of-self-else-len-all
invariant_of-self-else-len-all c = left (goal.at.invariant_of-self-else-len-all c).After-all

-- what was there
taken : (c : After-all) → c.switch_cache_pair_at-pair.result ≡ slice_get c.args.self.now c.args.place
taken c = c.switch_cache_pair_at-pair.ensures ∙ nth_pair c.self.inside.map.entries c.args.place
    c.live_cache_slot_place-at.result c.live_cache_slot_place-at.ensures
    ∙ ap (λ pairs. slice_get pairs c.args.place) c.self.view_is

pub returns-then-len-all-clause-pair : goal.returns-then-len-all-clause-pair
returns-then-len-all-clause-pair c = taken (goal.at.returns-then-len-all-clause-pair c).After-all

pub returns-else-len-all-clause-pair : goal.returns-else-len-all-clause-pair
returns-else-len-all-clause-pair c = taken (goal.at.returns-else-len-all-clause-pair c).After-all

pub returns-then-len-all-clause-rest : goal.returns-then-len-all-clause-rest
returns-then-len-all-clause-rest c =
    ap live_cache_pairs c.sweep_dead_cache_slots.ensures.slots ∙ swept_pairs c.if-place-eq0.self-inside.map.entries
    ∙ rest (goal.at.returns-then-len-all-clause-rest c).After-all

pub returns-else-len-all-clause-rest : goal.returns-else-len-all-clause-rest
returns-else-len-all-clause-rest c = rest (goal.at.returns-else-len-all-clause-rest c).After-all
