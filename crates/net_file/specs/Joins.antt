-- First tier. Which switch has a port, and which switches a link joins.
use Rattle.std.specs.Prelude.{◌&&◌, ◌==◌, ◌||◌, Bool, List, Option, position, ℕ}
use Rattle.base.specs.Exports.{bit_at, list_any}
use Rattle.net_file.specs.declared.net.SwitchRow.{SwitchRow}
use Rattle.net_file.specs.declared.net.LinkRow.{LinkRow}

abbrev pub net_switch_has_port : ℕ → SwitchRow → Bool
net_switch_has_port port row = bit_at row.ports port == 1

-- the number of the switch that has the port
abbrev pub net_port_owner : List SwitchRow → ℕ → Option ℕ
net_port_owner switches port = position (net_switch_has_port port) switches

-- the link joins these two switches, in either order
abbrev pub net_link_joins : ℕ → ℕ → LinkRow → Bool
net_link_joins s x link = (link.one == s && link.two == x) || (link.one == x && link.two == s)

-- some link joins them
abbrev pub are_linked_in_net : List LinkRow → ℕ → ℕ → Bool
are_linked_in_net links s x = list_any (net_link_joins s x) links
