use Rattle.std.proofs.Common.{◌∙◌, ap}
use Rattle.base.proofs.Exports.{list_any}
use Rattle.switch_table.specs.Exports.{CacheValue, cache_has_key, same_cache_key}
use Rattle.switch_table.proofs.CachePairs.{has_key_of_entry}
use Rattle.switch_table.proofs.cache.Cache.has_key_of.Goals as goal

pub returns : goal.returns
returns c =
    let entry = c.args.entry.now in
    let pairs = c.self.inside.slots in
    c.contains.ensures ∙ ap (λ key. cache_has_key key pairs) c.key.ensures.key
    ∙ has_key_of_entry c.self.inside.shift entry pairs c.self.invariant.versions
    ∙ ap (λ (cache : CacheValue). list_any (same_cache_key entry) cache.entries) c.self.view_is
