use Rattle.std.proofs.Common.{◌%◌, ◌≡◌, arith, refl}
use Rattle.wire.specs.Exports.{advert, n1, n4, n8, wire_spelled_number, switch}
use Rattle.wire.proofs.codec.advert_bytes.Goals as goal

pub returns-clause-spelled : goal.returns-clause-spelled
unfolding advert switch n1 n4 n8 wire_spelled_number
returns-clause-spelled c =
    let origin = c.args.advert.now.origin in
    let small : origin % 256 ≡ origin = omega (arith, c.requires) in
    rw (
      c.copy_from_slice.ensures.after,
      c.copy_from_slice-2.ensures.after,
      c.copy_from_slice-3.ensures.after,
      c.to_be_bytes.ensures,
      c.to_be_bytes-2.ensures,
      c.to_be_bytes-3.ensures,
      small,
    ) refl
