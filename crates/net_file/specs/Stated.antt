-- What is read about a switch before its name is copied.
use Rattle.net_file.specs.declared.net.SwitchRow.{SwitchRow}
use Rattle.net_file.specs.declared.switches.Stated.{Stated}

abbrev pub net_row_stated : Stated → SwitchRow
net_row_stated stated = record { name = stated.name.now; ports = stated.ports; room = stated.room }
