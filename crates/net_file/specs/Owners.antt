-- Which switch has a name or a port: its number, a test, a mask, and a table.
use Rattle.std.specs.Prelude.{◌≡◌, Bool, List, None, Option, bytes_eq, position, slice_index_or, ℕ}
use Rattle.base.specs.Exports.{list_any, small_number_mask}
use Rattle.net_file.specs.declared.net.SwitchRow.{SwitchRow}
use Rattle.net_file.specs.declared.ports.Ports.{Ports}
use Rattle.net_file.specs.Joins.{net_port_owner, net_switch_has_port, are_linked_in_net}
use Rattle.net_file.specs.declared.net.LinkRow.{LinkRow}

-- what the table says about a port
abbrev pub owner_in_net_ports : Ports → ℕ → Option ℕ
owner_in_net_ports ports port = slice_index_or ports.owners port None

-- the table says which of the switches has each port
abbrev pub AreNetPortOwners : List SwitchRow → Ports → Type 0
AreNetPortOwners switches ports = (port : ℕ) → owner_in_net_ports ports port ≡ net_port_owner switches port

-- the number of the switch with this name: its place, from 0
abbrev pub net_switch_number_named : List SwitchRow → List ℕ → Option ℕ
net_switch_number_named switches name = position (λ row. bytes_eq row.name name) switches

-- one of the switches has the name; one has the port
abbrev pub have_net_switch_name : List SwitchRow → List ℕ → Bool
have_net_switch_name switches name = list_any (λ row. bytes_eq row.name name) switches

abbrev pub net_switches_have_port : List SwitchRow → ℕ → Bool
net_switches_have_port switches port = list_any (net_switch_has_port port) switches

-- all ports of the network
abbrev pub port_mask : List SwitchRow → ℕ
port_mask switches = small_number_mask (net_switches_have_port switches)

-- the switches that a link joins to s
abbrev pub links_of : List LinkRow → ℕ → ℕ
links_of links s = small_number_mask (are_linked_in_net links s)
