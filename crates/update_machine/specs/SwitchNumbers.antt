-- The switches of a network, by number.
use Rattle.std.specs.Prelude.{List, length, ℕ}
use Rattle.base.specs.Exports.{range_with_len}
use Rattle.update_machine.specs.Setting.{Setting}

-- the numbers of the switches, ascending
abbrev pub machine_switches_of : Setting → List ℕ
machine_switches_of setting = range_with_len 0 (length setting.net.switches)
