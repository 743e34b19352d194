use Rattle.std.proofs.Common.{◌∙◌, ◌≡◌, Some, ap, find}
use Rattle.ternary.specs.Exports.{holds}
use Rattle.policy_rules.specs.Exports.{is_in_policy_partition}
use Rattle.policy_rules.specs.declared.rules.Partition.{Partition}
use Rattle.switch_table.proofs.SwitchTableLemmas.{own_found}
use Rattle.switch_table.proofs.search.lookup.Goals as goal

pub authority-requires : goal.authority-requires
authority-requires c =
    let header = c.args.header.now in
    let own = c.args.tables.now.auth in
    let found : Some c.in-Some-own_part.part.now ≡ find (is_in_policy_partition header) own =
    c.in-Some-own_part.ensures ∙ ap (λ n. find (λ (part : Partition). holds part.region n)
    c.items.result.now) c.number-number.ensures.number ∙ ap (find (is_in_policy_partition header)) c.items.ensures in
    own_found header own c.in-Some-own_part.part.now found c.requires.few_rules
