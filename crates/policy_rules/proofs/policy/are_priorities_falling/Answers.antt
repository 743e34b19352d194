use Rattle.std.proofs.Common.{◌∙◌, ◌≡◌, ap, arith, cond, false, nat_eq, ne_eqb, sym, take, true}
use Rattle.policy_rules.specs.Exports.{policy_has_priority}
use Rattle.policy_rules.proofs.PolicyDistinctRows.{seen_more, so_far_all, so_far_more}
use Rattle.policy_rules.proofs.policy.are_priorities_falling.Goals as goal

pub loop-row-preserved : goal.loop-row-preserved
loop-row-preserved c =
    let rows = c.args.rows.now in
    let i = c.loop-row.row-index in
    let row = c.row-item.result in
    let fresh = c.loop-row.invariant.fresh in record {
      fresh = λ q lower.
          let other : nat_eq row.priority q ≡ false = ne_eqb row.priority q (λ same. omega arith) in
          sym (seen_more rows i row q c.loop-row-test.true c.row-item.is)
          ∙ ap (λ b. cond b true (policy_has_priority (take i rows) q)) other ∙ fresh q (omega arith);
      so_far = so_far_more rows i row c.loop-row-test.true c.row-item.is c.loop-row.invariant.so_far
          c.row_is_sound.ensures (fresh row.priority (omega arith));
    }

pub returns : goal.returns
returns c = λ _. so_far_all _ _ c.loop-row-test.false c.requires c.loop-row.invariant.so_far
