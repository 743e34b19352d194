use Rattle.std.proofs.Common.{◌∙◌, ap, position, sym}
use Rattle.cache_maker.specs.Differing.{rule_meets_widened_word}
use Rattle.cache_maker.proofs.CacheWordPlaces.{found_before, found_from, if_some, not_found_on_both_sides}
use Rattle.policy_rules.proofs.PolicyRulesCallerLemmas.{none_from_not_some}
use Rattle.cache_maker.proofs.cache_word.next_cache_word_overlap.Goals as goal

pub returns-in-Some-clause-met : goal.returns-in-Some-clause-met
returns-in-Some-clause-met c =
    found_from (rule_meets_widened_word c.args.h c.args.fixed) c.args.rules.now c.args.from c.in-Some.place
    (ap (λ xs. position (rule_meets_widened_word c.args.h c.args.fixed) xs) (sym c.split_at.ensures.back)
    ∙ sym c.first_cache_word_overlap.ensures ∙ c.in-Some.is)

pub returns-in-None-clause-met : goal.returns-in-None-clause-met
returns-in-None-clause-met c = if_some c.first_cache_word_overlap-in-None.result
    (λ place is. found_before (rule_meets_widened_word c.args.h c.args.fixed) c.args.rules.now c.args.from place
    (ap (λ xs. position (rule_meets_widened_word c.args.h c.args.fixed) xs) (sym c.split_at.ensures.front)
    ∙ sym c.first_cache_word_overlap-in-None.ensures ∙ is))

pub returns-in-None-clause-none : goal.returns-in-None-clause-none
returns-in-None-clause-none c none =
    not_found_on_both_sides (rule_meets_widened_word c.args.h c.args.fixed) c.args.rules.now c.args.from
    (ap (λ xs. position (rule_meets_widened_word c.args.h c.args.fixed) xs) (sym c.split_at.ensures.back)
    ∙ sym c.first_cache_word_overlap.ensures ∙ c.in-None.is)
    (ap (λ xs. position (rule_meets_widened_word c.args.h c.args.fixed) xs) (sym c.split_at.ensures.front)
    ∙ sym c.first_cache_word_overlap-in-None.ensures ∙ none_from_not_some _ none)
