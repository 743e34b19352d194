use Rattle.std.proofs.Common.{◌∙◌}
use Rattle.rebalance.proofs.ProposedPlans.{text_of_found}
use Rattle.rebalance.proofs.plan_proposal.rebalance_proposal_text.Goals as goal

pub returns : goal.returns
returns c = text_of_found c.args.plan.now.policy c.args.plan.now.hosted c.args.net.now
    c.args.journal.now c.in_ok-found.found c.deref.result.now c.rebalance_headed_text.result c.in_ok-found.ensures
    (c.deref.ensures.value ∙ c.in_ok-text.ensures) c.rebalance_headed_text.ensures
