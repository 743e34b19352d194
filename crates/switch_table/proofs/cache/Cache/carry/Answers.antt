use Rattle.std.proofs.Common.{◌-◌, ◌<◌, ◌∙◌, ◌≡◌, ap, arith, filter_map, subst, sym, rules}
use Rattle.switch_table.specs.Exports.{CacheKeysHaveVersions, CacheHoldsEntries, cache_after_carry, carried_cache_entry, kept_cache_entries}
use Rattle.switch_table.proofs.CacheCarryLemmas.{left_few}
use Rattle.switch_table.proofs.CacheCarryShift.{below_newest, carried_pairs, masked_carried, pairs_over, up_to_carried, versions_over}
use Rattle.switch_table.proofs.CachePairs.{holds_of}
use Rattle.switch_table.proofs.cache.Cache.carry.Goals as goal
use Rattle.switch_table.proofs.cache.Cache.carry.Goals.{After-keep_carried}

kept : (c : After-keep_carried) → c.keep_carried.new.self
    ≡ pairs_over c.self.inside.shift c.args.version c.args.touched.now c.self.inside.slots
kept c = search rules

-- the shift isn't 0
some : (c : After-keep_carried) → 0 < c.self.inside.shift
some c = omega (arith, c.self.invariant.falls, c.if-self-version.true, c.ranges.version.fits)

gone_over : (c : After-keep_carried) → let entries = kept_cache_entries c.self.inside.shift c.self.inside.slots in
    kept_cache_entries (c.self.inside.shift - 1) c.keep_carried.new.self
    ≡ filter_map (carried_cache_entry c.args.version c.args.touched.now entries) entries
gone_over c = search (rules, below_newest, carried_pairs)

pub invariant_of-self : goal.invariant_of-self
invariant_of-self c =
    let here = (goal.at.invariant_of-self c).After-keep_carried in
    let shift = c.self.inside.shift in
    let version = c.args.version in
    let touched = c.args.touched.now in
    let entries = kept_cache_entries shift c.self.inside.slots in
    subst (λ masks. CacheHoldsEntries masks (shift - 1) version c.self.inside.capacity
    c.keep_carried.new.self) (sym c.wait_for.ensures)
    (holds_of c.self.inside.masks (shift - 1) version c.self.inside.capacity c.keep_carried.new.self
    _ (omega (arith, c.self.invariant.fits))
    (omega (arith, c.self.invariant.falls, c.if-self-version.true, c.ranges.version.fits))
    (subst (CacheKeysHaveVersions (shift - 1)) (sym (kept here)) (versions_over shift version touched
    c.self.inside.slots (some here) (omega (arith, c.ranges.version.fits)))) (gone_over here)
    (up_to_carried version c.self.inside.newest version touched entries c.self.invariant.up_to
    (omega (arith, c.if-self-version.true)) (omega arith))
    (masked_carried c.self.inside.masks version touched entries c.self.invariant.masked)
    (left_few version c.self.inside.capacity touched entries c.self.invariant.few))

pub returns-then-self-version-clause-ok : goal.returns-then-self-version-clause-ok
returns-then-self-version-clause-ok c =
    let left = gone_over (goal.at.returns-then-self-version-clause-ok c).After-keep_carried in
    (λ i. record { entries = left i; capacity = c.self.inside.capacity })
    ∙ ap (cache_after_carry c.args.version c.args.touched.now) c.self.view_is
