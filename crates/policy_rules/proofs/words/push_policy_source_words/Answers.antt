use Rattle.std.proofs.Common.{[], ◌++◌, ◌∙◌, ◌∷◌, ap, append-nil, append_assoc, map, sym, rules}
use Rattle.base.proofs.Exports.{map-append}
use Rattle.policy_rules.specs.Exports.{word_of_policy_row}
use Rattle.policy_rules.proofs.PolicyBlockLoops.{IsAtBlock, at_block}
use Rattle.policy_rules.proofs.words.push_policy_source_words.Goals as goal
use Rattle.policy_rules.proofs.words.push_policy_source_words.Goals.{After-next}

-- the loop, at its next block
here : (c : After-next) → IsAtBlock c.args.row.now.dport c.loop-destination.yielded c.next.result
here c = search (rules, at_block)

pub loop-destination-init : goal.loop-destination-init
loop-destination-init c = sym (append-nil _)

pub word_of_row-requires-clause-destination : goal.word_of_row-requires-clause-destination
word_of_row-requires-clause-destination c =
    (here (goal.at.word_of_row-requires-clause-destination c).After-next).turn c.requires.row.dport _
    c.in-Some.is

pub loop-destination-preserved : goal.loop-destination-preserved
loop-destination-preserved c =
    let done = c.loop-destination.yielded in
    let g = word_of_policy_row c.args.row.now c.args.source in
    c.in_ok-push.ensures.items
    ∙ ap (λ word. c.loop-destination.words.items ++ word ∷ []) c.word_of_row.ensures
    ∙ ap (λ these. these ++ g c.in-Some.destination ∷ []) c.loop-destination.invariant
    ∙ append_assoc c.args.words.now.items (map g done) (g c.in-Some.destination ∷ [])
    ∙ ap (λ these. c.args.words.now.items ++ these)
    (sym (map-append g done (c.in-Some.destination ∷ [])))

pub returns : goal.returns
returns c =
    cc (c.loop-destination.invariant, (here (goal.at.returns c).After-next).end c.in-None.is)
