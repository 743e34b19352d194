use Rattle.std.proofs.Common.{◌&&◌, ◌+◌, ◌∙◌, ◌≡◌, IfSome, None, Option, Some, ap, eqb, find, option_map, rules, subst, sym}
use Rattle.base.proofs.Exports.{YieldsList-from_first, find_from_yields_List, found_is, option_map_id}
use Rattle.ternary.specs.Exports.{holds}
use Rattle.switch_table.specs.Exports.{CacheValue, KeyedCacheEntry, first_cache_entry, is_cache_key_hit, kept_cache_entry}
use Rattle.switch_table.specs.declared.cache.CacheEntry.{CacheEntry}
use Rattle.switch_table.proofs.FirstCacheHits.{first_by_hits}
use Rattle.switch_table.proofs.CachePairs.{HasVersion}
use Rattle.switch_table.proofs.cache.Cache.first_entry.Goals as goal
use Rattle.switch_table.proofs.cache.Cache.first_entry.Goals.{After-first_hit}

-- the first entry, by the first pair of such a key
entry_is : (c : After-first_hit) (pair : Option KeyedCacheEntry) → pair ≡ find (λ (p : KeyedCacheEntry). is_cache_key_hit
    (c.from.result + c.self.inside.shift) c.args.number c.in-Some.masks.now p.0) c.self.inside.slots
    → option_map (kept_cache_entry c.self.inside.shift) pair
    ≡ first_cache_entry c.args.version c.args.number c.args.self.now.entries
entry_is c pair is =
    let shift = c.self.inside.shift in
    let masks = c.in-Some.masks.now in
    let pairs = c.self.inside.slots in
    ap (option_map (kept_cache_entry shift)) (is ∙ ap (λ version. find
    (λ (p : KeyedCacheEntry). is_cache_key_hit (version + shift) c.args.number masks p.0) pairs) c.from.ensures)
    ∙ first_by_hits shift c.args.version c.args.number masks pairs c.self.invariant.versions
    (rw c.in-Some.ensures at c.self.invariant.masked)
    ∙ ap (λ (cache : CacheValue). first_cache_entry c.args.version c.args.number cache.entries)
    c.self.view_is

pub returns-in_err-key-in-Some : goal.returns-in_err-key-in-Some
returns-in_err-key-in-Some c = let none : c.from_residual.result ≡ None = search rules in
    none ∙ entry_is (goal.at.returns-in_err-key-in-Some c).After-first_hit None (search rules)

pub of-requires : goal.of-requires
of-requires c =
    let HasOne = λ (found : Option KeyedCacheEntry). IfSome found (HasVersion c.self.inside.shift) in
    subst HasOne (sym c.in_ok-key-in-Some.ensures)
    (found_is (HasVersion c.self.inside.shift) _ c.self.inside.slots c.self.invariant.versions)

pub returns-in_ok-key-in-Some : goal.returns-in_ok-key-in-Some
returns-in_ok-key-in-Some c = ap Some c.of.ensures
    ∙ entry_is (goal.at.returns-in_ok-key-in-Some c).After-first_hit
    (Some (c.in_ok-key-in-Some.key, c.in_ok-key-in-Some.learnt)) c.in_ok-key-in-Some.ensures

pub returns-in-None : goal.returns-in-None
returns-in-None c =
    let test = λ (entry : CacheEntry). eqb entry.version c.args.version
    && holds entry.word c.args.number in
    let found = find_from_yields_List test _ _ c.find.result c.find.ensures.ran
    (YieldsList-from_first (λ x. x) (λ s. s) c.args.self.now.entries c.entries.ensures.entries)
    (λ x b q k. search rules) in
    sym (option_map_id c.find.result) ∙ found
