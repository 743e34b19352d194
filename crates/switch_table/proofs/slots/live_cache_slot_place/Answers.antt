use Rattle.std.proofs.Common.{◌<◌, ◌∙◌, ap, drop, map, subst, sym, ℕ}
use Rattle.base.proofs.Exports.{drop-map, values_of}
use Rattle.switch_table.specs.Exports.{IsNthLiveCacheFlag, cache_live_count_set, cache_live_flags_of, is_live_cache_slot}
use Rattle.switch_table.proofs.CacheSlotRemovals.{IsStart, flag_of, flags_values, nth_behind, starts_block, starts_first}
use Rattle.switch_table.proofs.slots.live_cache_slot_place.Goals as goal
use Rattle.switch_table.proofs.slots.live_cache_slot_place.Goals.{then-before-eq0, else-before-eq0}

pub returns : goal.returns
returns c =
    let before = c.args.before in
    let slots = c.args.map.now.entries in
    let flags = cache_live_flags_of slots in
    let start = c.if-before-eq0.start in
    let begins : IsStart start.0 start.1 before flags = elim c.if-before-eq0.branch [
      | then-before-eq0 w ↦ rw w.start-is (starts_first c.args.live.now c.args.first before slots
          c.requires.slots c.requires.some w.if-before-eq0.true)
      | else-before-eq0 w ↦ subst (λ (p : ℕ × ℕ). IsStart p.0 p.1 before flags) (sym w.start-is)
          (starts_block w.block_of-block.result.0 w.block_of-block.result.1 before flags
          (w.block_of-block.ensures flags c.requires.slots.counted c.requires.some))
    ] in
    let behind = ap (map flag_of) (c.as_slice.ensures ∙ c.values.ensures.rest ∙ ap values_of
    (c.split_at-rest.ensures.back ∙ ap (drop start.0) c.as_slice-slots.ensures.entries))
    ∙ flags_values (drop start.0 slots) ∙ sym (drop-map is_live_cache_slot start.0 slots) in
    let found = subst (λ fs. start.1 < cache_live_count_set fs → IsNthLiveCacheFlag start.1 c.nth_live_cache_slot.result fs) behind
    c.nth_live_cache_slot.ensures.found in
    nth_behind start.0 start.1 before c.nth_live_cache_slot.result flags begins (found begins.some)
