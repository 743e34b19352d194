use Rattle.std.proofs.Common.{[], ◌++◌, ◌∷◌, ◌≡◌, rules}
use Rattle.base.proofs.Exports.{All-push}
use Rattle.switch_table.specs.Exports.{AreSoundSwitchTables}
use Rattle.switch_core.proofs.switch.Switch.install.Goals as goal

pub invariant_of-self-2 : goal.invariant_of-self-2
invariant_of-self-2 c =
    let kept : c.push.new.self.items ≡ c.self.inside.tables.items ++ c.args.tables.now ∷ [] =
    search rules in record {
      number = c.self.invariant.number;
      sound = rw kept (All-push AreSoundSwitchTables c.self.inside.tables.items c.args.tables.now
          c.self.invariant.sound c.requires);
      own = c.self.invariant.own;
    }
