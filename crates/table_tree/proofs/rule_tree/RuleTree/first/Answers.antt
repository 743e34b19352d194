use Rattle.five_tuple.specs.Exports.{header_number_of}
use Rattle.table_tree.proofs.TableTreeRules.{first_is}
use Rattle.table_tree.proofs.rule_tree.RuleTree.first.Goals as goal

pub returns-in-Some-clause-place : goal.returns-in-Some-clause-place
returns-in-Some-clause-place c =
    first_is c.args.rules.now c.args.self.now.region c.args.self.now.root c.number-number.result
    (header_number_of c.args.header.now) c.end_of.result.now c.deref.result.now _ c.requires.built
    c.requires.header c.number-number.ensures.number c.end_of.ensures c.deref.ensures.value c.in-Some.ensures

pub returns-in-None-clause-place : goal.returns-in-None-clause-place
returns-in-None-clause-place c =
    first_is c.args.rules.now c.args.self.now.region c.args.self.now.root c.number-number.result
    (header_number_of c.args.header.now) c.end_of.result.now c.deref.result.now _ c.requires.built
    c.requires.header c.number-number.ensures.number c.end_of.ensures c.deref.ensures.value c.in-None.ensures
