use Rattle.std.proofs.Common.{◌∙◌, arith, length-set}
use Rattle.base.proofs.Exports.{fill_by_more}
use Rattle.net_file.specs.Exports.{links_of}
use Rattle.world_log.proofs.up_links.link_masks.Goals as goal

pub loop-switch-preserved : goal.loop-switch-preserved
loop-switch-preserved c =
    let near = c.loop-switch.near in
    let switch = c.loop-switch.switch in
    rw c.links_of.ensures (
      length-set near switch (links_of c.args.net.now.links switch) ∙ c.loop-switch.invariant.0,
      fill_by_more (links_of c.args.net.now.links) near switch 0
          (omega (arith, c.loop-switch.invariant.0)) c.loop-switch.invariant.1,
    )
