use Rattle.std.proofs.Common.{◌∙◌, ap, arith, option_map, slice_get, sym}
use Rattle.base.proofs.Exports.{slice_get-map}
use Rattle.switch_table.specs.Exports.{CacheValue, kept_cache_entries, kept_cache_entry}
use Rattle.switch_table.specs.declared.cache.CacheEntry.{CacheEntry}
use Rattle.switch_table.proofs.CachePairs.{few_removed, holds_removed}
use Rattle.switch_table.proofs.cache.Cache.expire.Goals as goal

pub invariant_of-self : goal.invariant_of-self
invariant_of-self c = let entries = kept_cache_entries c.self.inside.shift c.self.inside.slots in
    holds_removed _ _ _ _ _ c.args.k _ _ c.self.invariant c.remove.ensures.rest
    (omega (arith, few_removed entries c.args.k, c.self.invariant.few))

pub invariant_of-self-2 : goal.invariant_of-self-2
invariant_of-self-2 c = let entries = kept_cache_entries c.self.inside.shift c.self.inside.slots in
    holds_removed _ _ _ _ _ c.args.k _ _ c.self.invariant c.remove.ensures.rest
    (omega (arith, few_removed entries c.args.k, c.self.invariant.few))

pub returns-clause-message : goal.returns-clause-message
returns-clause-message c =
    let message = option_map (λ (entry : CacheEntry). entry.message) in
    let entry = kept_cache_entry c.self.inside.shift in
    ap (λ pair. message (option_map entry pair)) c.in_ok-learnt.ensures.pair
    ∙ ap message (sym (slice_get-map entry c.self.inside.slots c.args.k)
    ∙ ap (λ (cache : CacheValue). slice_get cache.entries c.args.k) c.self.view_is)
