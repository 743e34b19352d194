use Rattle.std.proofs.Common.{◌≡◌, filter, nat_lt, rules}
use Rattle.base.proofs.Exports.{All-filter, filter_same}
use Rattle.switch_table.specs.Exports.{AreSoundSwitchTables}
use Rattle.switch_table.specs.declared.tables.Tables.{Tables}
use Rattle.switch_core.specs.Exports.{switch_collected_to}
use Rattle.switch_core.proofs.switch.Switch.collect.Goals as goal
use Rattle.switch_core.proofs.switch.Switch.collect.Goals.{After-retain}

kept : (c : After-retain) → c.retain.new.self.items ≡ filter (λ (tables : Tables). nat_lt
    c.max-self-inside.result tables.version) c.self.inside.tables.items
kept c = filter_same _ (λ (tables : Tables). nat_lt c.max-self-inside.result tables.version) _
    (λ e b f called. (search rules, search rules)) _ _ c.retain.ensures.filtered

pub invariant_of-self : goal.invariant_of-self
invariant_of-self c = record {
  number = c.self.invariant.number;
  sound = rw (kept c) (All-filter
      (λ (tables : Tables). nat_lt c.max-self-inside.result tables.version) AreSoundSwitchTables
      c.self.inside.tables.items c.self.invariant.sound);
  own = c.self.invariant.own;
}

pub returns : goal.returns
unfolding switch_collected_to
returns c = rw (← c.self.view_is, kept c, c.max-self-inside.ensures)
