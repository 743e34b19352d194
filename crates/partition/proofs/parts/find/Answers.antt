use Rattle.std.proofs.Common.{◌∙◌, ap, arith, option_map, sym}
use Rattle.ternary.specs.Exports.{holds}
use Rattle.policy_rules.specs.declared.rules.Partition.{Partition}
use Rattle.partition.proofs.PartLemmas.{alone, part_here}
use Rattle.partition.proofs.parts.find.Goals as goal

pub returns-then-holds-clause-alone : goal.returns-then-holds-clause-alone
returns-then-holds-clause-alone c = let part = c.part-item.result in
    alone c.args.header.now c.args.parts.now part.number c.requires
    (ap (option_map (λ (p : Partition). p.number)) (c.loop-part.invariant.first
    ∙ part_here c.args.header.now c.args.parts.now _ part (omega arith) c.part-item.is
    (ap (holds part.region) (sym c.number-number.ensures.number) ∙ sym c.if-holds.ensures.test)))
