use Rattle.std.proofs.Common.{◌<◌, ◌≡◌, get_or, length, ℕ}
use Rattle.net_file.specs.Exports.{links_of}
use Rattle.world_log.proofs.up_links.link_masks.Given as goal

abbrev pub invariant-loop-switch : goal.invariant-loop-switch
invariant-loop-switch l = (length l.near ≡ 64)
    × ((s : ℕ) → s < l.switch → get_or l.near s 0 ≡ links_of l.net.links s)
