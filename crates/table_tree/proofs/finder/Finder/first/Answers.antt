use Rattle.std.proofs.Common.{◌==◌, ◌∙◌, IsSomeAnd, IsTrue, ap, find, option_and_then, subst, sym}
use Rattle.policy_rules.specs.Exports.{is_in_policy_partition}
use Rattle.policy_rules.specs.declared.rules.Partition.{Partition}
use Rattle.switch_table.specs.declared.tables.Tables.{Tables}
use Rattle.table_tree.specs.Finding.{TableTreeFinderValue}
use Rattle.table_tree.proofs.TableTreeFinder.{first_in, none_there, one_read}
use Rattle.table_tree.proofs.finder.Finder.first.Goals as goal

pub returns-in-None-clause-place : goal.returns-in-None-clause-place
returns-in-None-clause-place c = ap (option_and_then (first_in c.args.header.now))
    (none_there c.items.result.now c.args.partition c.in-None.ensures
    ∙ ap (find (λ (part : Partition). part.number == c.args.partition))
    (c.items.ensures ∙ ap (λ (t : Tables). t.auth) c.deref.ensures
    ∙ ap (λ (v : TableTreeFinderValue). v.tables.auth) c.self.view_is))

pub first_at-requires : goal.first_at-requires
first_at-requires c =
    let at = one_read c.items.result.now c.args.self.now.tables.auth c.args.partition c.in-Some.own
    (c.items.ensures ∙ ap (λ (t : Tables). t.auth) c.deref.ensures
    ∙ ap (λ (v : TableTreeFinderValue). v.tables.auth) c.self.view_is) c.in-Some.ensures in
    subst (λ o. IsSomeAnd o (λ (part : Partition). IsTrue (is_in_policy_partition c.args.header.now part)))
    (sym at) c.requires

pub returns-in-Some-clause-place : goal.returns-in-Some-clause-place
returns-in-Some-clause-place c =
    let at = one_read c.items.result.now c.args.self.now.tables.auth c.args.partition c.in-Some.own
    (c.items.ensures ∙ ap (λ (t : Tables). t.auth) c.deref.ensures
    ∙ ap (λ (v : TableTreeFinderValue). v.tables.auth) c.self.view_is) c.in-Some.ensures in
    c.first_at.ensures.place
    ∙ ap (option_and_then (first_in c.args.header.now)) at
