use Rattle.std.proofs.Common.{rules, ℕ}
use Rattle.base.proofs.Exports.{Reverse, answers_always}
use Rattle.policy_rules.specs.declared.policy.Row.{Row}
use Rattle.policy_rules.proofs.PolicyFallingRows.{falling_from_sorted, same_sorted}
use Rattle.policy_rules.proofs.rule_list.by_falling_priority.Goals as goal

pub returns : goal.returns
returns c =
    let sorted = c.sort_by_key.new.self.items in
    let key : Row → Reverse ℕ = λ row. record { 0 = row.priority } in
    let moved = rw c.in_ok-sorted.ensures.items at c.in_ok-sort_by_key.ensures.permutation in
    same_sorted c.args.rows.now sorted c.requires.sound c.requires.distinct moved
    (falling_from_sorted sorted (c.in_ok-sort_by_key.ensures.sorted key
    (answers_always _ _ _ (λ f a r g called. search rules))))
