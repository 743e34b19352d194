use Rattle.failover.proofs.FailoverHeldAdverts.{by_origin-none, by_origin-first, by_origin-hearing, held-first, held_heard, held_others}
use Rattle.failover.proofs.FailoverNewestAdvert.{held_newest}
use Rattle.failover.proofs.laws.advert_laws.Goals as goal

pub returns : goal.returns
returns c = record {
  none = by_origin-none;
  first = by_origin-first;
  begun = held-first;
  kept = by_origin-hearing;
  heard = held_heard;
  others = held_others;
  newest = held_newest;
}
