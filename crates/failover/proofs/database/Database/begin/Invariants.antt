use Rattle.std.proofs.Common.{◌<◌, ◌≡◌, None, get_or, length, ℕ}
use Rattle.failover.specs.Exports.{first_failover_advert_below}
use Rattle.failover.proofs.database.Database.begin.Given as goal

abbrev pub invariant-loop-origin : goal.invariant-loop-origin
invariant-loop-origin l = (length l.adverts ≡ 64)
    × ((k : ℕ) → k < l.origin → get_or l.adverts k None ≡ first_failover_advert_below l.near l.switches k)
