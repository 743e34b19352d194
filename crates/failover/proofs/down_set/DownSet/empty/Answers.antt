use Rattle.failover.proofs.FailoverLinkSets.{none_is_link_set, link_set_has-none}
use Rattle.failover.proofs.down_set.DownSet.empty.Goals as goal

pub invariant_of-result : goal.invariant_of-result
invariant_of-result c = none_is_link_set

pub returns-clause-links : goal.returns-clause-links
returns-clause-links c = link_set_has-none
