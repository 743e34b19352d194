use Rattle.std.proofs.Common.{◌∙◌, ap, arith, find, min, sym, take_all}
use Rattle.base.proofs.Exports.{place_none, position_or_len}
use Rattle.switch_table.specs.Exports.{KeyedCacheEntry, is_cache_key_hit}
use Rattle.switch_table.proofs.CacheSlotHits.{hit_at, hit_live, hit_more}
use Rattle.switch_table.proofs.slots.CacheSlots.first_hit.Goals as goal

pub loop-mask-init : goal.loop-mask-init
loop-mask-init c = c.len-least.ensures.len ∙ sym (place_none c.self.inside.map.entries)

pub loop-mask-preserved : goal.loop-mask-preserved
loop-mask-preserved c =
    c.min-least.ensures ∙ (λ k. min (c.loop-mask.invariant k) (c.cache_slot_place_under.ensures k))
    ∙ sym (hit_more c.args.number c.args.header c.loop-mask.mask-index c.args.masks.now
    c.mask-item.result c.self.inside.map.entries c.loop-mask-test.true c.mask-item.is)

pub returns : goal.returns
returns c =
    let masks = c.args.masks.now in
    let slots = c.self.inside.map.entries in
    c.switch_cache_pair_at.ensures
    ∙ hit_at (is_cache_key_hit c.args.number c.args.header masks) slots c.loop-mask.least
    (c.loop-mask.invariant ∙ ap (λ ms. position_or_len (hit_live c.args.number c.args.header ms)
    slots) (take_all c.loop-mask.mask-index masks (omega (arith, c.loop-mask-test.false))))
    ∙ ap (find (λ (pair : KeyedCacheEntry). is_cache_key_hit c.args.number c.args.header masks pair.0)) c.self.view_is
