use Rattle.failover.proofs.FailoverKnownLinks.{has_known, own_link, link_elsewhere, known_turned, isolated_tells}
use Rattle.failover.proofs.laws.link_laws.Goals as goal

pub returns : goal.returns
returns c = record {
  known = has_known;
  own = own_link;
  elsewhere = link_elsewhere;
  either_end = known_turned;
  isolated = isolated_tells;
}
