use Rattle.std.proofs.Common.{[], ◌++◌, ◌∙◌, ◌∷◌, ap, arith, drop, length, rules, sym}
use Rattle.base.proofs.Exports.{length-map, list_any}
use Rattle.switch_table.specs.Exports.{CacheValue, cache_after_accept, kept_cache_entries, kept_cache_entry, same_cache_key}
use Rattle.switch_table.proofs.CacheLemmas.{first_evicted, length-rest}
use Rattle.switch_table.proofs.CachePairs.{entries_pushed, entries_removed, first_removed, holds_pushed, holds_removed}
use Rattle.switch_table.proofs.cache.Cache.accept.Goals as goal

pub invariant_of-self-then-len-self : goal.invariant_of-self-then-len-self
invariant_of-self-then-len-self c =
    let shift = c.self-2.inside.shift in
    let pairs = c.self-2.inside.slots in
    let entries = kept_cache_entries shift c.push.new.self in
    let pushed = holds_pushed c.self-2.inside.masks c.add.new.self shift c.self-2.inside.newest
    c.max-self-inside.result c.self-2.inside.capacity pairs c.push.new.self c.args.entry
    c.self-2.invariant
    (c.in_ok-push.ensures.ok ∙ λ i. pairs ++ (c.key.ensures.key i, c.learnt.ensures i) ∷ [])
    (omega (arith, c.max-self-inside.ensures)) (omega (arith, c.max-self-inside.ensures))
    c.max-self-inside.type_inv c.add.ensures.kept c.in_ok-add.ensures.added in
    holds_removed _ _ _ _ _ 0 _ _ pushed c.remove.ensures.rest
    (omega (arith, ap length (first_removed entries), length-rest entries _ pushed.few))

pub returns-then-len-self-clause-ok : goal.returns-then-len-self-clause-ok
returns-then-len-self-clause-ok c =
    let shift = c.self-2.inside.shift in
    let entry = c.args.entry in
    let pairs = c.self-2.inside.slots in
    let same = c.self-2.view_is ∙ c.gather_masks.ensures in
    let pushed = entries_pushed shift entry pairs c.push.new.self
    (c.in_ok-push.ensures.ok ∙ λ i. pairs ++ (c.key.ensures.key i, c.learnt.ensures i) ∷ []) in
    let left = ap (kept_cache_entries shift) c.remove.ensures.rest
    ∙ entries_removed shift c.push.new.self 0 ∙ first_removed (kept_cache_entries shift c.push.new.self)
    ∙ ap (drop 1) pushed in
    (λ i. record { entries = left i; capacity = c.self-2.inside.capacity })
    ∙ first_evicted c.args.stamp entry
    (record { entries = kept_cache_entries shift pairs; capacity = c.self-2.inside.capacity }) (search rules)
    (ap (λ (cache : CacheValue). list_any (same_cache_key entry) cache.entries) same
    ∙ sym c.has_key_of.ensures ∙ search rules)
    (omega (
      arith,
      c.if-len-self.true,
      c.len-2.ensures.len,
      ap length pushed,
      length-map c.push.new.self (kept_cache_entry shift),
    ))
    ∙ ap (cache_after_accept c.args.stamp entry) same
