use Rattle.std.proofs.Common.{◌+◌, ◌<◌, ◌^◌, ◌≤◌, subst, ℕ}
use Rattle.base.proofs.Exports.{All-head, All-tail}
use Rattle.switch_table.specs.Exports.{CacheKeysHaveVersions, KeyedCacheEntry}
use Rattle.switch_table.proofs.items.CacheItemsIterator.next.Goals as goal

abbrev IsVersioned : ℕ → KeyedCacheEntry → Type 0
IsVersioned shift pair = (shift ≤ pair.0.number) × (pair.0.number < shift + 2 ^ 32)

pub of-requires : goal.of-requires
of-requires c = All-head (IsVersioned c.self.inside.shift) (c.in_ok-key.key, c.in_ok-key.learnt)
    c.next.new.self (rw c.in_ok-key.ensures.steps at c.self.invariant)

pub invariant_of-self-2 : goal.invariant_of-self-2
invariant_of-self-2 c = All-tail (IsVersioned c.self.inside.shift)
    (c.in_ok-key.key, c.in_ok-key.learnt) c.next.new.self
    (subst (CacheKeysHaveVersions c.self.inside.shift) c.in_ok-key.ensures.steps c.self.invariant)
