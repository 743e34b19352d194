use Rattle.std.proofs.Common.{◌∙◌, None, arith}
use Rattle.base.proofs.Exports.{fill_by_all}
use Rattle.base.specs.Exports.{switches}
use Rattle.failover.specs.Exports.{first_adverts, first_failover_advert_below}
use Rattle.failover.proofs.FailoverHeldAdverts.{by_origin-first}
use Rattle.failover.proofs.database.Database.begin.Goals as goal

pub of-requires : goal.of-requires
unfolding first_adverts switches
of-requires c = rw (fill_by_all (first_failover_advert_below c.args.near.now c.args.switches) c.loop-origin.adverts 64
    None c.loop-origin.invariant.0 (λ k below. c.loop-origin.invariant.1 k (omega arith)))
    (by_origin-first c.args.near.now c.args.switches)

pub returns : goal.returns
unfolding first_adverts switches
returns c = c.of.ensures ∙ fill_by_all (first_failover_advert_below c.args.near.now c.args.switches)
    c.loop-origin.adverts 64 None c.loop-origin.invariant.0
    (λ k below. c.loop-origin.invariant.1 k (omega arith))
