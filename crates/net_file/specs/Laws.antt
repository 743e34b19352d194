-- The laws of networks: a function of `src` ensures each record of laws.
use Rattle.std.specs.Prelude.{◌<◌, ◌==◌, ◌≡◌, ◌≢◌, ◌≤◌, All, Bool, List, Some, codes, false, is_some, length, slice_get, true, ℕ}
use Rattle.base.specs.Exports.{bit_at}
use Rattle.net_file.specs.declared.net.SwitchRow.{SwitchRow}
use Rattle.net_file.specs.declared.net.LinkRow.{LinkRow}
use Rattle.net_file.specs.declared.net.Net.{Net}
use Rattle.net_file.specs.Net.{IsNet, is_net_name}
use Rattle.net_file.specs.Owners.{have_net_switch_name, port_mask, net_switch_number_named, links_of}
use Rattle.net_file.specs.Joins.{are_linked_in_net, net_switch_has_port, net_port_owner}

-- the byte is no comma, no blank and no line feed
pub record IsPlainNetByte (byte : ℕ) : Type 0 where
  pub no_comma : byte ≢ 44
  pub no_blank : byte ≢ 32
  pub no_line_feed : byte ≢ 10

pub record NetNameLaws : Type 0 where
  pub plain : (name : List ℕ) → is_net_name name ≡ true → All IsPlainNetByte name
  pub size : (name : List ℕ) → is_net_name name ≡ true → (1 ≤ length name) × (length name ≤ 16)
  pub not_controller : (name : List ℕ) → is_net_name name ≡ true → name ≢ codes "controller"
  -- the number of a name is that of the switch that has it
  pub number : (net : Net) (s : ℕ) (row : SwitchRow) → IsNet net
      → slice_get net.switches s ≡ Some row → net_switch_number_named net.switches row.name ≡ Some s
  pub named : (switches : List SwitchRow) (name : List ℕ) (s : ℕ)
      → net_switch_number_named switches name ≡ Some s
      → (row : SwitchRow) × (slice_get switches s ≡ Some row) × (row.name ≡ name)
  pub below : (switches : List SwitchRow) (name : List ℕ) (s : ℕ)
      → net_switch_number_named switches name ≡ Some s → s < length switches
  pub some : (switches : List SwitchRow) (name : List ℕ)
      → is_some (net_switch_number_named switches name) ≡ have_net_switch_name switches name

pub record NetPortLaws : Type 0 where
  -- the owner of a port is the one switch that has it
  pub owner : (net : Net) (port s : ℕ) (row : SwitchRow) → IsNet net
      → slice_get net.switches s ≡ Some row → net_switch_has_port port row ≡ true
      → net_port_owner net.switches port ≡ Some s
  pub has : (switches : List SwitchRow) (port s : ℕ) → net_port_owner switches port ≡ Some s
      → (row : SwitchRow) × (slice_get switches s ≡ Some row) × (net_switch_has_port port row ≡ true)
  pub below : (switches : List SwitchRow) (port s : ℕ) → net_port_owner switches port ≡ Some s
      → s < length switches
  pub small : (net : Net) (port s : ℕ) → IsNet net → net_port_owner net.switches port ≡ Some s → port < 64
  pub mask : (net : Net) (port : ℕ) → IsNet net
      → (bit_at (port_mask net.switches) port == 1) ≡ is_some (net_port_owner net.switches port)

-- the mask has exactly the bits for which the test is true
abbrev pub IsNetPortMask : ℕ → (ℕ → Bool) → Type 0
IsNetPortMask mask test = (k : ℕ) → (bit_at mask k == 1) ≡ test k

pub record NetLinkLaws : Type 0 where
  pub both_ways : (links : List LinkRow) (s x : ℕ) → are_linked_in_net links s x ≡ are_linked_in_net links x s
  pub not_itself : (net : Net) (s : ℕ) → IsNet net → are_linked_in_net net.links s s ≡ false
  pub below : (net : Net) (s x : ℕ) → IsNet net → are_linked_in_net net.links s x ≡ true
      → x < length net.switches
  pub mask : (net : Net) (s : ℕ) → IsNet net
      → IsNetPortMask (links_of net.links s) (are_linked_in_net net.links s)
