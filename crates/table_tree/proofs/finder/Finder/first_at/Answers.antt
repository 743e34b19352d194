use Rattle.std.proofs.Common.{◌∙◌, ap, get_or, option_and_then, position, slice_get, sym}
use Rattle.five_tuple.specs.Exports.{header_number_of}
use Rattle.policy_rules.specs.Exports.{is_held_by_policy_rule}
use Rattle.switch_table.specs.declared.tables.Tables.{Tables}
use Rattle.table_tree.specs.declared.trees.TableTrees.{TableTrees}
use Rattle.table_tree.specs.Finding.{TableTreeFinderValue}
use Rattle.table_tree.proofs.TableTreeFinder.{IsThere, first_in, is_there}
use Rattle.table_tree.proofs.finder.Finder.first_at.Goals as goal
use Rattle.table_tree.proofs.finder.Finder.first_at.Goals.{After-items-2}

there : (c : After-items-2) → IsThere c.self.inside.tables.value c.args.header.now c.args.own
    c.index-items-own.result c.index.result.now
there c = is_there c.self.inside.tables.value c.args.self.now.tables c.args.header.now c.args.own
    c.index-items-own.result c.index.result.now c.items.result.now
    c.self.inside.trees.value.rule_trees.items (ap (λ (v : TableTreeFinderValue). v.tables) c.self.view_is)
    c.requires (c.items.ensures ∙ ap (λ (t : Tables). t.auth) c.deref.ensures)
    c.self.invariant.rules c.index-items-own.is (c.index.ensures
    ∙ ap (λ (t : TableTrees). get_or t.rule_trees.items c.args.own c.index.result.now) c.deref-2.ensures)

pub first-requires-clause-built : goal.first-requires-clause-built
first-requires-clause-built c = cc ((there c).shape, c.items-2.ensures)

pub first-requires-clause-header : goal.first-requires-clause-header
first-requires-clause-header c = (there c).region

pub returns-clause-place : goal.returns-clause-place
returns-clause-place c =
    c.first.ensures.place ∙ ap (position (is_held_by_policy_rule (header_number_of c.args.header.now))) c.items-2.ensures
    ∙ sym (ap (option_and_then (first_in c.args.header.now)) (there c.before).at)
    ∙ ap (λ (v : TableTreeFinderValue). option_and_then (first_in c.args.header.now)
    (slice_get v.tables.auth c.args.own)) c.self.view_is
