use Rattle.std.proofs.Common.{◌≡◌, subst, sym}
use Rattle.std.proofs.lemmas.Result.{IfOk-weaker}
use Rattle.five_tuple.specs.Exports.{IsPortRangeCover, port_range_cover_of}
use Rattle.five_tuple.proofs.PortCoverBlocks.{is_cover_of}
use Rattle.five_tuple.proofs.port_blocks.cover.Goals as goal

pub returns-clause-blocks : goal.returns-clause-blocks
returns-clause-blocks c =
    let blocks = is_cover_of c.args.range.now c.collect_tuple_port_blocks.ensures.sound in
    IfOk-weaker c.collect_tuple_port_blocks.result (λ v. v.items ≡ port_range_cover_of c.args.range.now) _
    (λ v is. subst (IsPortRangeCover c.args.range.now) (sym is) blocks) c.collect_tuple_port_blocks.ensures.blocks
