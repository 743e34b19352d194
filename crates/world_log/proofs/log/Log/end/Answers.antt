use Rattle.world_log.proofs.LogCalls.{log_one}
use Rattle.world_log.proofs.log.Log.end.Goals as goal
use Rattle.std.proofs.Common.{None, refl}

pub returns : goal.returns
returns c = log_one c.push.result c.args.item c.args.packet None c.args.self.now _
    c.push.ensures.pushed c.push.ensures.unchanged refl c.remove.ensures.after
