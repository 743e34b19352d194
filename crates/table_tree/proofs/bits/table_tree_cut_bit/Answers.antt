use Rattle.std.proofs.Common.{inl, inr}
use Rattle.std.proofs.lemmas.Option.{IfSome_then, MatchOption-at_none, MatchOption-at_some}
use Rattle.policy_rules.proofs.PolicyRulesCallerLemmas.{IfNone-weaker}
use Rattle.table_tree.specs.Regions.{table_tree_all_fix, table_tree_some_fixes}
use Rattle.table_tree.proofs.TableTreeMasks.{least_free, none_free}
use Rattle.table_tree.proofs.TableTreeNodes.{cut_is_free}
use Rattle.table_tree.proofs.bits.table_tree_cut_bit.Goals as goal

pub returns-in-Some-clause-some : goal.returns-in-Some-clause-some
returns-in-Some-clause-some c =
    inl (least_free c.args.region.now (table_tree_all_fix c.args.candidates.now) c.table_tree_fixed_bits.result
    c.free_bits_to_cut-free.result c.in-Some.bit c.table_tree_fixed_bits.ensures c.free_bits_to_cut-free.ensures
    (MatchOption-at_some _ _ c.in-Some.bit c.in-Some.is c.lowest.ensures.some))

pub returns-in-None-clause-some : goal.returns-in-None-clause-some
returns-in-None-clause-some c =
    IfSome_then c.lowest-in-None.result c.lowest-in-None.ensures.some (λ bit low. inr (
      none_free c.args.region.now (table_tree_all_fix c.args.candidates.now) c.table_tree_fixed_bits.result
          c.free_bits_to_cut-free.result c.table_tree_fixed_bits.ensures c.free_bits_to_cut-free.ensures
          (MatchOption-at_none _ _ c.in-None.is c.lowest.ensures.none),
      least_free c.args.region.now (table_tree_some_fixes c.args.candidates.now) c.table_tree_some_fixed_bits.result
          c.free_bits_to_cut-free.result bit (λ k within. c.table_tree_some_fixed_bits.ensures k)
          c.free_bits_to_cut-free.ensures low,
    ))

pub returns-in-None-clause-none : goal.returns-in-None-clause-none
returns-in-None-clause-none c = IfNone-weaker c.lowest-in-None.result c.lowest-in-None.ensures.none
    (none_free c.args.region.now (table_tree_some_fixes c.args.candidates.now) c.table_tree_some_fixed_bits.result
    c.free_bits_to_cut-free.result (λ k within. c.table_tree_some_fixed_bits.ensures k) c.free_bits_to_cut-free.ensures)

pub returns-in-Some-clause-free : goal.returns-in-Some-clause-free
returns-in-Some-clause-free c = cut_is_free c.args.candidates.now c.args.region.now c.in-Some.bit
    (returns-in-Some-clause-some c)

pub returns-in-None-clause-free : goal.returns-in-None-clause-free
returns-in-None-clause-free c = IfSome_then c.lowest-in-None.result (returns-in-None-clause-some c)
    (cut_is_free c.args.candidates.now c.args.region.now)
