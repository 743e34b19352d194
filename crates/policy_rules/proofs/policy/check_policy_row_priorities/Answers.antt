use Rattle.std.proofs.Common.{◌+◌, ◌∙◌, ap, cond, nat_eq, sym, true}
use Rattle.base.proofs.Exports.{not-true}
use Rattle.policy_rules.proofs.PolicyDistinctRows.{seen_more, so_far_all, so_far_more}
use Rattle.policy_rules.proofs.PolicyPrioritySets.{set_with}
use Rattle.policy_rules.proofs.policy.check_policy_row_priorities.Goals as goal

pub loop-row-preserved : goal.loop-row-preserved
loop-row-preserved c =
    let rows = c.args.rows.now in
    let row = c.row-item.result in
    let known = c.loop-row.invariant in record {
      counts = ap (λ n. n + 1) known.counts;
      seen = λ q. set_with _ _ row.priority c.in_ok-insert.ensures.updates q
          ∙ ap (λ b. cond (nat_eq row.priority q) true b) (known.seen q)
          ∙ seen_more rows _ row q c.loop-row-test.true c.row-item.is;
      so_far = so_far_more rows _ row c.loop-row-test.true c.row-item.is known.so_far
          c.row_is_sound.ensures (sym (known.seen row.priority)
          ∙ not-true _ (sym c.in_ok-insert.ensures.added ∙ c.if-not-branch.false));
    }

pub returns-clause-policy : goal.returns-clause-policy
returns-clause-policy c = so_far_all _ _ c.loop-row-test.false c.requires c.loop-row.invariant.so_far
