use Rattle.std.proofs.Common.{◌≡◌, List, ap, subst, sym, ℕ}
use Rattle.rebalance.specs.Proposals.{RebalanceProposesFor}
use Rattle.difane_cli.proofs.ProposalOutcomes.{no_proposal, wrote_proposal}
use Rattle.difane_cli.proofs.proposing.write_program_proposal.Goals as goal

pub returns-in-Ok : goal.returns-in-Ok
returns-in-Ok g c =
    let plan = c.args.plan.now in
    let journal = c.args.journal.now in
    let net = c.args.net.now in
    let before = g.K.Sink.state c.args.out.now in
    let now = g.K.Sink.state c.write_whole.new.sink in
    rw c.in-None.is (wrote_proposal plan.policy plan.hosted net journal c.deref.result.now
    g.K.Sink.takes_memory before now c.write_whole.result
    (subst (λ (text : List ℕ). RebalanceProposesFor plan.policy plan.hosted net journal
    (λ whole. text ≡ whole)) (sym c.deref.ensures.value) c.in-Ok.ensures)
    c.write_whole.ensures.after
    (λ none. ap (λ k. g.K.Sink.state k) (c.write_whole.ensures.no_bytes none).1))

pub returns-in-Err : goal.returns-in-Err
returns-in-Err g c = let plan = c.args.plan.now in
    rw c.in-None.is (no_proposal plan.policy plan.hosted c.args.net.now c.args.journal.now
    g.K.Sink.takes_memory (g.K.Sink.state c.args.out.now))
