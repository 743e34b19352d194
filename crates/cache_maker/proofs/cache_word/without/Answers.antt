use Rattle.std.proofs.Common.{◌%◌, ◌*◌, ◌^◌, ◌∙◌, ◌≡◌, ap, arith, bit_xor, subst, sym}
use Rattle.std.proofs.Math.Facts.{Fits-lt-pow}
use Rattle.std.specs.Int.{trailing_zeros, w128}
use Rattle.std.proofs.lemmas.Nat.{one_shl}
use Rattle.std.proofs.lemmas.Nat.Bits.{bit_at-trailing_zeros}
use Rattle.cache_maker.proofs.CacheWordFixedBits.{IsPartWithout, bit_within, fewer, part_at_first, part_at_last, part_goes, part_stays}
use Rattle.cache_maker.proofs.cache_word.without.Goals as goal
use Rattle.cache_maker.proofs.cache_word.without.Goals.{then-reasons-place-ne0, else-reasons-place-ne0}

pub loop-left-init : goal.loop-left-init
loop-left-init c = part_at_first c.args.fixed c.args.reasons.now c.args.bit c.requires.fixed

pub bounds-reasons-place : goal.bounds-reasons-place
bounds-reasons-place c = let left = c.loop-left.left in
    bit_within left (trailing_zeros w128 left) c.loop-left.invariant.bound
    (bit_at-trailing_zeros w128 left (omega arith) (Fits-lt-pow c.loop-left.auto.left-fits)).1

pub loop-left-smaller : goal.loop-left-smaller
loop-left-smaller c =
    let left = c.loop-left.left in
    let lowest = bit_at-trailing_zeros w128 left (omega arith)
    (Fits-lt-pow c.loop-left.auto.left-fits) in
    rw (one_shl _ 128 lowest.0) (fewer left (trailing_zeros w128 left) lowest.1)

pub loop-left-preserved : goal.loop-left-preserved
loop-left-preserved c =
    let left = c.loop-left.left in
    let n = trailing_zeros w128 left in
    let lowest = bit_at-trailing_zeros w128 left (omega arith)
    (Fits-lt-pow c.loop-left.auto.left-fits) in
    let one : 1 * 2 ^ n % 2 ^ 128 ≡ 2 ^ n = one_shl n 128 lowest.0 in
    subst (λ x. IsPartWithout c.args.fixed c.args.reasons.now c.args.bit
    c.if-reasons-place-ne0.stays (bit_xor left x)) (sym one)
    (elim c.if-reasons-place-ne0.branch [
      | then-reasons-place-ne0 w ↦ rw (w.stays-is ∙ ap (λ x. bit_xor c.loop-left.stays x) one)
          (part_goes c.loop-left.invariant n lowest.1 w.if-reasons-place-ne0.true)
      | else-reasons-place-ne0 w ↦ rw w.stays-is
          (part_stays c.loop-left.invariant n lowest.1 w.if-reasons-place-ne0.false)
    ])

pub returns : goal.returns
returns c = part_at_last (rw c.loop-left-test.false at c.loop-left.invariant)
