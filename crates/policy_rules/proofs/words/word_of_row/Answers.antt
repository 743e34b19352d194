use Rattle.std.proofs.Common.{◌∙◌, ◌≡◌, sym}
use Rattle.base.proofs.Exports.{MatchOption-at_some}
use Rattle.ternary.specs.Exports.{WordValue}
use Rattle.policy_rules.specs.Exports.{word_of_policy_row}
use Rattle.policy_rules.proofs.PolicyRowWords.{IsWord-word_of_row}
use Rattle.policy_rules.proofs.words.word_of_row.Goals as goal

pub unwrap-requires : goal.unwrap-requires
unfolding word_of_policy_row
unwrap-requires c =
    let row = c.args.row.now in
    let pair : WordValue = record {
      value = c.match_value_of_row-value.result;
      mask = c.match_mask_of_row-mask.result;
    } in
    let same : word_of_policy_row row c.args.source c.args.destination ≡ pair = λ i. record {
      value = sym c.match_value_of_row-value.ensures i;
      mask = sym c.match_mask_of_row-mask.ensures i;
    } in
    c.new.ensures.taken.1 (rw same at (IsWord-word_of_row row c.args.source c.args.destination
    c.requires.row c.requires.source c.requires.destination))

pub returns : goal.returns
unfolding word_of_policy_row
returns c = (MatchOption-at_some _ _ c.unwrap.result c.unwrap.ensures c.new.ensures.pair).0
    ∙ λ i. record { value = c.match_value_of_row-value.ensures i; mask = c.match_mask_of_row-mask.ensures i }
