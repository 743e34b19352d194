use Rattle.std.proofs.Common.{◌∙◌, subst, sym}
use Rattle.policy_rules.specs.Exports.{IsFirstPolicyMatch, IsPolicy}
use Rattle.trace_audit.proofs.AuditIndexedRows.{best_first}
use Rattle.trace_audit.proofs.index.IndexedAuditPolicy.first_match.Goals as goal

indexed : (c : goal.After-best) → IsFirstPolicyMatch c.args.self.now c.args.header.now c.best.result
indexed c =
    let header = c.args.header.now in
    let hit = c.best.result in
    best_first c.args.self.now header hit
    (rw (c.rows-rows.ensures.rows ∙ c.self.view_is) at (rw c.fields.ensures at c.best.ensures))

pub returns-in-Some-clause-is : goal.returns-in-Some-clause-is
returns-in-Some-clause-is = indexed

pub returns-in-Some-clause-only : goal.returns-in-Some-clause-only
returns-in-Some-clause-only c = λ hit first.
    let one = c.policy_laws.ensures.one c.args.self.now c.args.header.now in
    let policy = subst IsPolicy c.self.view_is c.rows-rows.ensures.policy in
    one hit policy first ∙ sym (one c.best.result policy (indexed c))

pub returns-in-None-clause-only : goal.returns-in-None-clause-only
returns-in-None-clause-only c = λ hit first.
    let one = c.policy_laws.ensures.one c.args.self.now c.args.header.now in
    let policy = subst IsPolicy c.self.view_is c.rows-rows.ensures.policy in
    one hit policy first ∙ sym (one c.scan.result policy (subst (λ xs. IsFirstPolicyMatch xs
    c.args.header.now c.scan.result) c.self.view_is c.scan.ensures.first_match))
