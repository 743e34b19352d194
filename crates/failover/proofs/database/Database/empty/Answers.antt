use Rattle.failover.proofs.FailoverHeldAdverts.{by_origin-none}
use Rattle.failover.proofs.database.Database.empty.Goals as goal

pub of-requires : goal.of-requires
of-requires c = by_origin-none
