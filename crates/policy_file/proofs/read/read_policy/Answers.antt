use Rattle.std.proofs.Common.{◌+◌, ◌∙◌, Err, Ok, ap, arith, subst, sym}
use Rattle.policy_file.specs.declared.error.PolicyRefusal.TheVariants as why
use Rattle.policy_file.specs.Exports.{IsPolicyReadUpTo, policy_file_policy_of, policy_file_rows}
use Rattle.policy_file.proofs.PolicyFileRows.{all_fresh_rows, all_read, fresh_rows, refused_next, repeated}
use Rattle.policy_file.proofs.read.read_policy.Goals as goal

pub returns-in-Err-Refused-clause-refused : goal.returns-in-Err-Refused-clause-refused
unfolding policy_file_policy_of
returns-in-Err-Refused-clause-refused c =
    let rows = c.in_ok-rows.field-0.rows.items in
    let from = c.in_ok-rows.ensures.read in
    let (place, is, first) = rw c.in-Err-Refused.field-0-is at c.in-Err-Refused.ensures.refused in
    from.under ∙ repeated policy_file_rows from.records rows c.in_ok-rows.field-0.refusal place from.read
    first.there first.repeats (fresh_rows rows place first.first)
    ∙ ap (λ row. Err (record { refusal = why.SamePriority; row = row })) (cc)

pub returns-in-None-clause-policy : goal.returns-in-None-clause-policy
unfolding policy_file_policy_of
returns-in-None-clause-policy c =
    let rows = c.in_ok-rows.field-0.rows.items in
    let from = c.in_ok-rows.ensures.read in
    from.under ∙ all_read policy_file_rows from.records rows
    (subst (IsPolicyReadUpTo policy_file_rows from.records rows) c.in-None.is from.read)
    (all_fresh_rows rows c.in-Ok.ensures.policy.distinct) ∙ ap Ok (sym c.in-Ok.ensures.rows)

pub returns-in-Some-clause-refused : goal.returns-in-Some-clause-refused
unfolding policy_file_policy_of
returns-in-Some-clause-refused c =
    let rows = c.in_ok-rows.field-0.rows.items in
    let from = c.in_ok-rows.ensures.read in
    from.under ∙ refused_next policy_file_rows from.records rows c.in-Some.refusal
    (subst (IsPolicyReadUpTo policy_file_rows from.records rows) c.in-Some.is from.read)
    (all_fresh_rows rows c.in-Ok.ensures.policy.distinct)
    ∙ ap (λ n. Err (record { refusal = c.in-Some.refusal; row = n + 1 })) (omega arith)
