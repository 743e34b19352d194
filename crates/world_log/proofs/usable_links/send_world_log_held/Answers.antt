use Rattle.std.proofs.Common.{◌≡◌, arith, ℕ}
use Rattle.world_log.proofs.LogRelinking.{held_all}
use Rattle.world_log.proofs.usable_links.send_world_log_held.Goals as goal

pub returns : goal.returns
returns c = let all : ◌≡◌ {A = ℕ} c.loop-origin.origin 64 = omega arith in
    cc (held_all c.args.switch.now c.args.other)
