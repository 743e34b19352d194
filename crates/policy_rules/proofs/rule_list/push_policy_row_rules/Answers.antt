use Rattle.std.proofs.Common.{[], ◌++◌, ◌∙◌, ◌∷◌, ◌≡◌, ap, append-nil, arith, length, length-take, sym, take, take_all, rules}
use Rattle.base.proofs.Exports.{length-map, map-append, take_more}
use Rattle.five_tuple.proofs.FiveTupleCallerLemmas.{is_cover_of}
use Rattle.five_tuple.specs.Exports.{port_range_cover_of}
use Rattle.policy_rules.specs.Exports.{policy_rules_ranked_from, policy_words_with_hit, words_of_policy_row}
use Rattle.policy_rules.proofs.PolicyRuleRanks.{ranked_more, length_ranked, few_pairs}
use Rattle.policy_rules.proofs.rule_list.push_policy_row_rules.Goals as goal
use Rattle.policy_rules.proofs.rule_list.push_policy_row_rules.Goals.{After-as_slice-word-items}

-- the words that are there then
words_are : (c : After-as_slice-word-items) → c.as_slice-word-items.result.now
    ≡ words_of_policy_row c.args.row.now
words_are c = search rules

pub loop-word-init : goal.loop-word-init
unfolding policy_rules_ranked_from
loop-word-init c = sym (append-nil _)

pub push_policy_rule-requires : goal.push_policy_rule-requires
push_policy_rule-requires c =
    let row = c.args.row.now in
    let words = take c.loop-word.word-index c.as_slice-word-items.result.now in
    let some : length (policy_words_with_hit row words) ≡ length words = length-map _ _ in
    let all : length (policy_words_with_hit row (words_of_policy_row row)) ≡ length (words_of_policy_row row) = length-map _ _ in
    omega (
      arith,
      some,
      all,
      ap length (words_are (goal.at.push_policy_rule-requires c).After-as_slice-word-items),
      length-take c.loop-word.word-index c.as_slice-word-items.result.now,
      few_pairs row (port_range_cover_of row.dport) (port_range_cover_of row.sport)
          (is_cover_of row.dport c.requires.row.dport).few
          (is_cover_of row.sport c.requires.row.sport).few,
      length_ranked _ _ (policy_words_with_hit row words) c.loop-word.invariant,
    )

pub loop-word-preserved : goal.loop-word-preserved
loop-word-preserved c =
    let i = c.loop-word.word-index in
    let words = c.as_slice-word-items.result.now in
    let more = take_more words i c.word-item.result c.loop-word-test.true
    ∙ ap (λ word. take i words ++ word ∷ []) (sym c.word-item.is) in
    ranked_more _ _ _ _ _ _ c.loop-word.invariant (rw c.of.ensures at c.in_ok-push_policy_rule.ensures)
    (ap (policy_words_with_hit c.args.row.now) more ∙ map-append _ (take i words) (c.word-item.result ∷ []))

pub returns : goal.returns
returns c = let rules = c.args.rules.now.items in
    c.loop-word.invariant
    ∙ ap (λ words. rules ++ policy_rules_ranked_from (length rules) (policy_words_with_hit c.args.row.now words))
    (take_all c.loop-word.word-index c.as_slice-word-items.result.now (omega arith)
    ∙ words_are (goal.at.returns c).After-as_slice-word-items)
