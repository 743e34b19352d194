use Rattle.std.proofs.Common.{refl}
use Rattle.journal.specs.declared.item.Item.TheVariants as item
use Rattle.world_log.proofs.LogCalls.{log_one}
use Rattle.world_log.proofs.log.Log.move_on.Goals as goal

pub returns : goal.returns
returns c = log_one c.push.result (item.Hopped c.args.packet c.args.switch) c.args.packet _
    c.args.self.now _ c.push.ensures.pushed c.push.ensures.unchanged refl c.move_to.ensures
