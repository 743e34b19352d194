use Rattle.failover.proofs.FailoverLinkSets.{none_is_link_set, link_set_has-none, with_link_is_link_set, link_set_has-with_link, link_set_has-turned, same_link_sets}
use Rattle.failover.proofs.laws.link_set_laws.Goals as goal

pub returns : goal.returns
returns c = record {
  none = none_is_link_set;
  no_link = link_set_has-none;
  kept = with_link_is_link_set;
  added = link_set_has-with_link;
  either_order = link_set_has-turned;
  same = same_link_sets;
}
