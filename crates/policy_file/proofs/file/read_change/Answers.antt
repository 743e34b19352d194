use Rattle.std.proofs.Common.{◌+◌, ◌∙◌, Err, Ok, ap, arith, subst, sym}
use Rattle.policy_file.specs.declared.error.PolicyRefusal.TheVariants as why
use Rattle.policy_rules.proofs.PolicyRulesCallerLemmas.{fresh_edits}
use Rattle.policy_file.specs.Exports.{IsPolicyReadUpTo, csv_change_of, policy_file_change_rows}
use Rattle.policy_file.proofs.PolicyFileRows.{all_fresh_edits, all_read, refused_next, repeated}
use Rattle.policy_file.proofs.file.read_change.Goals as goal

pub returns-in-Err-Refused-clause-refused : goal.returns-in-Err-Refused-clause-refused
unfolding csv_change_of
returns-in-Err-Refused-clause-refused c =
    let rows = c.in_ok-rows.field-0.rows.items in
    let from = c.in_ok-rows.ensures.read in
    let (place, is, first) = rw c.in-Err-Refused.field-0-is at c.in-Err-Refused.ensures.refused in
    from.under ∙ repeated policy_file_change_rows from.records rows c.in_ok-rows.field-0.refusal place from.read
    first.there first.repeated (λ k d. fresh_edits rows place k d first.first)
    ∙ ap (λ row. Err (record { refusal = why.SamePriority; row = row })) (cc)

pub returns-in-None-clause-change : goal.returns-in-None-clause-change
unfolding csv_change_of
returns-in-None-clause-change c =
    let rows = c.in_ok-rows.field-0.rows.items in
    let from = c.in_ok-rows.ensures.read in
    from.under ∙ all_read policy_file_change_rows from.records rows
    (subst (IsPolicyReadUpTo policy_file_change_rows from.records rows) c.in-None.is from.read)
    (all_fresh_edits rows c.in-Ok.ensures.amendment.distinct) ∙ ap Ok (sym c.in-Ok.ensures.edits)

pub returns-in-Some-clause-refused : goal.returns-in-Some-clause-refused
unfolding csv_change_of
returns-in-Some-clause-refused c =
    let rows = c.in_ok-rows.field-0.rows.items in
    let from = c.in_ok-rows.ensures.read in
    from.under ∙ refused_next policy_file_change_rows from.records rows c.in-Some.refusal
    (subst (IsPolicyReadUpTo policy_file_change_rows from.records rows) c.in-Some.is from.read)
    (all_fresh_edits rows c.in-Ok.ensures.amendment.distinct)
    ∙ ap (λ n. Err (record { refusal = c.in-Some.refusal; row = n + 1 })) (omega arith)
