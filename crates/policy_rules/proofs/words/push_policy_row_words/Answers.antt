use Rattle.std.proofs.Common.{◌++◌, ◌∙◌, ap, append-nil, sym, rules}
use Rattle.base.proofs.Exports.{flat_map_more}
use Rattle.policy_rules.proofs.PolicyBlockLoops.{IsAtBlock, at_block, block_words}
use Rattle.policy_rules.proofs.words.push_policy_row_words.Goals as goal
use Rattle.policy_rules.proofs.words.push_policy_row_words.Goals.{After-next}

-- the loop, at its next block
here : (c : After-next) → IsAtBlock c.args.row.now.sport c.loop-source.yielded c.next.result
here c = search (rules, at_block)

pub loop-source-init : goal.loop-source-init
loop-source-init c = sym (append-nil _)

pub push_policy_source_words-requires-clause-source : goal.push_policy_source_words-requires-clause-source
push_policy_source_words-requires-clause-source c =
    (here (goal.at.push_policy_source_words-requires-clause-source c).After-next).turn c.requires.sport _
    c.in-Some.is

pub loop-source-preserved : goal.loop-source-preserved
loop-source-preserved c = let words = block_words c.args.row.now in
    c.in_ok-push_policy_source_words.ensures
    ∙ ap (λ these. these ++ words c.in-Some.source) c.loop-source.invariant
    ∙ flat_map_more words c.args.words.now.items c.loop-source.yielded c.in-Some.source

pub returns : goal.returns
returns c = cc (c.loop-source.invariant, (here (goal.at.returns c).After-next).end c.in-None.is)
