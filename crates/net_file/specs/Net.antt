-- First tier. Networks that a text can state, the one of a single switch, and names of switches.
use Rattle.std.specs.Prelude.{[], ◌&&◌, ◌++◌, ◌-◌, ◌<◌, ◌==◌, ◌^◌, ◌||◌, ◌∷◌, ◌≢◌, ◌≤◌, All, AllPairs, Bool, IsFalse, IsTrue, List, bytes_eq, codes, false, flat_map, length, nat_le, not, slice_get, ℕ}
use Rattle.base.specs.Exports.{is_ascii_alphabetic, is_ascii_alphanumeric, list_all, option_map_or}
use Rattle.net_file.specs.declared.net.SwitchRow.{SwitchRow}
use Rattle.net_file.specs.declared.net.LinkRow.{LinkRow}
use Rattle.net_file.specs.declared.net.Net.{Net}
use Rattle.net_file.specs.Joins.{net_switch_has_port, net_link_joins}

-- ---- switches

abbrev pub is_net_name_byte : ℕ → Bool
is_net_name_byte byte = is_ascii_alphanumeric byte || byte == 95 || byte == 45

abbrev pub are_net_name_bytes : List ℕ → Bool
are_net_name_bytes bytes = list_all is_net_name_byte bytes

-- a letter, then up to 15 letters, digits, `_` or `-`
abbrev pub is_net_label : List ℕ → Bool
is_net_label [] = false
is_net_label (first ∷ more) = is_ascii_alphabetic first && are_net_name_bytes more
    && nat_le (length more) 15

-- a label, but not the controller's name
abbrev pub is_net_name : List ℕ → Bool
is_net_name name = is_net_label name && not (bytes_eq name (codes "controller"))

-- ---- networks

-- a switch that a network can have
pub record IsNetSwitchRow (row : SwitchRow) : Type 0 where
  pub name : IsTrue (is_net_name row.name)
  pub ports : row.ports < 2 ^ 64
  pub room : row.room ≤ 8192

-- the switches have different names, and no port in common
pub record AreNetSwitchesApart (a b : SwitchRow) : Type 0 where
  pub names : IsFalse (bytes_eq a.name b.name)
  pub ports : (port : ℕ) → IsTrue (net_switch_has_port port a) → IsFalse (net_switch_has_port port b)

-- a link between two different switches, if there are this many
pub record IsNetLink (count : ℕ) (link : LinkRow) : Type 0 where
  pub one : link.one < count
  pub two : link.two < count
  pub apart : link.one ≢ link.two

-- two links do not join the same switches
abbrev pub AreOtherNetLinks : LinkRow → LinkRow → Type 0
AreOtherNetLinks a b = IsFalse (net_link_joins b.one b.two a)

-- a network that a text can state
pub record IsNet (net : Net) : Type 0 where
  pub some_switch : 1 ≤ length net.switches
  pub few_switches : length net.switches ≤ 64
  pub switches : All IsNetSwitchRow net.switches
  pub apart : AllPairs AreNetSwitchesApart net.switches
  pub few_links : length net.links ≤ 256
  pub links : All (IsNetLink (length net.switches)) net.links
  pub others : AllPairs AreOtherNetLinks net.links
  pub some_rules : 1 ≤ net.leaf_rules
  pub leaf_rules : net.leaf_rules ≤ 8192
  pub backups : net.backups ≤ 3
  pub cache : net.cache ≤ 65536

-- one switch with all ports, and leaves of the greatest size
abbrev pub net_of_one_switch : Net
net_of_one_switch = record {
  switches = record { name = codes "s0"; ports = 2 ^ 64 - 1; room = 8192 } ∷ [];
  links = [];
  leaf_rules = 8192;
  backups = 0;
  cache = 256;
}

-- the name of the switch of this number; empty if there is no such switch
abbrev pub net_switch_name_of : Net → ℕ → List ℕ
net_switch_name_of net s = option_map_or (λ row. row.name) (slice_get net.switches s) []

-- the names of switches, each after a blank
abbrev pub net_switch_names_text : Net → List ℕ → List ℕ
net_switch_names_text net list = flat_map (λ s. codes " " ++ net_switch_name_of net s) list
