-- A spread has targets for each partition, and a refusal says that there is none.
use Rattle.rebalance.proofs.plan_proposal.proposed_targets.Goals as goal

pub proposed-requires-clause-new : goal.proposed-requires-clause-new
proposed-requires-clause-new c = c.in-Ok.ensures.spread.number

pub returns-in-Ok : goal.returns-in-Ok
returns-in-Ok c =
    c.proposed.ensures c.args.sizes.now c.args.rooms.now c.args.backups c.in-Ok.ensures.spread tt

pub returns-in-Err-Refused : goal.returns-in-Err-Refused
returns-in-Err-Refused c =
    let refused = rw c.in-Err-Refused.field-0-is at c.in-Err-Refused.ensures.refused in
    c.proposed-in-Err-Refused.ensures c.args.sizes.now c.args.rooms.now c.args.backups tt
    (c.in-Err-Refused.field-0-0.partition, refused)
