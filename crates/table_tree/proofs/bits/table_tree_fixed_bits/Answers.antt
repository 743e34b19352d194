use Rattle.std.proofs.Common.{◌∙◌, ap, arith, take_all}
use Rattle.table_tree.specs.Regions.{table_tree_all_fix}
use Rattle.table_tree.proofs.TableTreeMasks.{all_more, all_none}
use Rattle.table_tree.proofs.bits.table_tree_fixed_bits.Goals as goal

pub loop-candidate-init : goal.loop-candidate-init
loop-candidate-init c = λ bit within. all_none bit within

pub loop-candidate-preserved : goal.loop-candidate-preserved
loop-candidate-preserved c = λ bit within. all_more c.args.candidates.now
    c.loop-candidate.candidate-index c.candidate-item.result _ _ bit c.loop-candidate-test.true
    c.candidate-item.is c.mask-bits.ensures.mask (c.loop-candidate.invariant bit within)

pub returns : goal.returns
returns c = λ bit within. c.loop-candidate.invariant bit within
    ∙ ap (λ candidates. table_tree_all_fix candidates bit)
    (take_all c.loop-candidate.candidate-index c.args.candidates.now (omega arith))
