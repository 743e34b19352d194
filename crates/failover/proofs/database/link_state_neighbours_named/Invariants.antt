use Rattle.std.proofs.Common.{◌<◌, ◌≡◌, None, get_or, length, ℕ}
use Rattle.failover.specs.Exports.{neighbours_named_by_advert}
use Rattle.failover.proofs.database.link_state_neighbours_named.Given as goal

abbrev pub invariant-loop-origin : goal.invariant-loop-origin
invariant-loop-origin l = (length l.named ≡ 64)
    × ((k : ℕ) → k < l.origin → get_or l.named k 0 ≡ neighbours_named_by_advert (get_or l.adverts k None))
