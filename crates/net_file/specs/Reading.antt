-- The network that a text states: a TOML 1.1 document, checked in the order of the network file.
use Rattle.std.specs.Prelude.{[], if◌then◌else◌, ◌&&◌, ◌++◌, ◌+◌, ◌==◌, ◌∷◌, Bool, Err, List, None, Ok, Option, Result, Some, codes, filter_map, is_some, length, nat_eq, nat_le, nat_lt, not, ok_or, option_and_then, true, ℕ}
use Rattle.base.specs.Exports.{refusal_in_row, is_utf8, list_all, list_any, small_number_mask}
use Rattle.toml.specs.Data.{Data, Members, as_integer, as_str, as_array, as_table}
use Rattle.toml.specs.Parse.{parse_document}
use Rattle.net_file.specs.Keys.{net_value_at_key, toml_items_list, toml_number_within, net_value_of_type, toml_integer_within}
use Rattle.net_file.specs.Net.{is_net_name}
use Rattle.net_file.specs.Refusals.{require_net_value, with_toml_value}
use Rattle.base.specs.declared.row.InRow.{InRow}
use Rattle.net_file.specs.declared.error.NetRefusal.{NetRefusal}
use Rattle.net_file.specs.declared.error.NetRefusal.TheVariants as refusal
use Rattle.net_file.specs.declared.net.SwitchRow.{SwitchRow}
use Rattle.net_file.specs.declared.net.LinkRow.{LinkRow}
use Rattle.net_file.specs.declared.net.Net.{Net}
use Rattle.net_file.specs.Owners.{have_net_switch_name, net_switches_have_port, net_switch_number_named}
use Rattle.net_file.specs.Joins.{are_linked_in_net}

-- ---- kinds of values

abbrev pub toml_integer_stated : ℕ → ℕ → Data → Result ℕ NetRefusal
toml_integer_stated low high d = with_toml_value (net_value_of_type (as_integer d)) (toml_number_within low high)

abbrev pub toml_array_in : Data → Result (List Data) NetRefusal
toml_array_in d = with_toml_value (net_value_of_type (as_array d)) (λ items. Ok (toml_items_list items))

abbrev pub toml_name_in : Data → Result (List ℕ) NetRefusal
toml_name_in d = with_toml_value (net_value_of_type (as_str d)) (λ text. require_net_value (is_net_name text) refusal.Range (Ok text))

-- a port of the array `ports`
abbrev pub toml_port_read : Data → Option ℕ
toml_port_read d = option_and_then (toml_integer_within 0 63) (as_integer d)

abbrev pub toml_ports_of : List Data → List ℕ
toml_ports_of ds = filter_map toml_port_read ds

-- the ports of an array; the type of each is checked before the range of any
abbrev pub toml_ports_in : Data → Result (List ℕ) NetRefusal
toml_ports_in d =
    with_toml_value (toml_array_in d) (λ ports.
    require_net_value (list_all (λ port. is_some (as_integer port)) ports) refusal.WrongType (
    require_net_value (list_all (λ port. is_some (toml_port_read port)) ports) refusal.Range (
    Ok (toml_ports_of ports))))

-- exactly two texts
abbrev pub toml_text_pair_of : List Data → Option (List ℕ × List ℕ)
toml_text_pair_of (one ∷ two ∷ []) =
    option_and_then (λ one. option_and_then (λ two. Some (one, two)) (as_str two)) (as_str one)
toml_text_pair_of _ = None

abbrev pub toml_ends_in : Data → Result (List ℕ × List ℕ) NetRefusal
toml_ends_in d = with_toml_value (toml_array_in d) (λ ends. net_value_of_type (toml_text_pair_of ends))

-- ---- settings

-- a number of the document, or its default if the key is absent
abbrev pub net_number_or_default : Members → List ℕ → ℕ → ℕ → ℕ → Result ℕ NetRefusal
net_number_or_default table key low high default = net_value_at_key (toml_integer_stated low high) (Ok default) table
    key

-- ---- switches

-- the array `switch` itself
abbrev pub net_switch_array : Members → Result (List Data) NetRefusal
net_switch_array table =
    with_toml_value (net_value_at_key toml_array_in (Err refusal.MissingKey) table (codes "switch")) (λ switches.
    require_net_value (nat_le (length switches) 64) refusal.TooMany (
    require_net_value (nat_lt 0 (length switches)) refusal.Range (
    Ok switches)))

-- no number occurs twice
abbrev pub are_distinct_net_ports : List ℕ → Bool
are_distinct_net_ports [] = true
are_distinct_net_ports (x ∷ xs) = not (list_any (nat_eq x) xs) && are_distinct_net_ports xs

-- the ports occur neither twice nor in an earlier switch
abbrev pub are_new_net_ports : List SwitchRow → List ℕ → Bool
are_new_net_ports earlier ports = are_distinct_net_ports ports && not (list_any (net_switches_have_port earlier) ports)

abbrev pub net_switch_name_at : Members → Result (List ℕ) NetRefusal
net_switch_name_at keys = net_value_at_key toml_name_in (Err refusal.MissingKey) keys (codes "name")

abbrev pub net_switch_ports_at : Members → Result (List ℕ) NetRefusal
net_switch_ports_at keys = net_value_at_key toml_ports_in (Ok []) keys (codes "ports")

-- a list of ports as a mask
abbrev pub net_port_bits : List ℕ → ℕ
net_port_bits ports = small_number_mask (λ port. list_any (nat_eq port) ports)

-- the switch that these keys state, after the earlier switches
abbrev pub net_switch_with : List SwitchRow → Members → Result SwitchRow NetRefusal
net_switch_with earlier keys = with_toml_value (net_switch_name_at keys) (λ name. with_toml_value (net_switch_ports_at keys) (λ ports.
    with_toml_value (net_number_or_default keys (codes "authority") 0 8192 0) (λ room.
    require_net_value (not (have_net_switch_name earlier name)) refusal.DuplicateName (
    require_net_value (are_new_net_ports earlier ports) refusal.DuplicatePort (
    Ok (record { name = name; ports = net_port_bits ports; room = room }))))))

abbrev pub net_switch_read : List SwitchRow → Data → Result SwitchRow NetRefusal
net_switch_read earlier d = with_toml_value (net_value_of_type (as_table d)) (net_switch_with earlier)

-- ---- links

-- the array `link` itself
abbrev pub net_link_array : Members → Result (List Data) NetRefusal
net_link_array table =
    with_toml_value (net_value_at_key toml_array_in (Ok []) table (codes "link")) (λ links.
    require_net_value (nat_le (length links) 256) refusal.TooMany (
    Ok links))

abbrev pub net_link_end_read : List SwitchRow → List ℕ → Result ℕ NetRefusal
net_link_end_read switches name = ok_or (net_switch_number_named switches name) refusal.UnknownName

-- the link that these keys state, after the earlier links
abbrev pub net_link_with : List SwitchRow → List LinkRow → Members → Result LinkRow NetRefusal
net_link_with switches earlier keys =
    with_toml_value (net_value_at_key toml_ends_in (Err refusal.MissingKey) keys (codes "ends")) (λ ends.
    with_toml_value (net_link_end_read switches ends.0) (λ one.
    with_toml_value (net_link_end_read switches ends.1) (λ two.
    require_net_value (not (one == two)) refusal.SelfLink (
    require_net_value (not (are_linked_in_net earlier one two)) refusal.DuplicateLink (
    Ok (record { one = one; two = two }))))))

abbrev pub net_link_of : List SwitchRow → List LinkRow → Data → Result LinkRow NetRefusal
net_link_of switches earlier d = with_toml_value (net_value_of_type (as_table d)) (net_link_with switches earlier)

-- ---- documents

-- the rows that values state, one after another after the earlier ones; or the first refusal,
-- whose row is base plus the number of the value, counted from 1
abbrev pub net_rows_read : {X : Type 0} → ℕ → (List X → Data → Result X NetRefusal) → List X → List Data
    → Result (List X) (InRow NetRefusal)
net_rows_read base read earlier [] = Ok earlier
net_rows_read base read earlier (d ∷ ds) =
    with_toml_value (refusal_in_row (base + (length earlier + 1)) (read earlier d))
    (λ row. net_rows_read base read (earlier ++ row ∷ []) ds)

abbrev pub net_switches_read : List Data → Result (List SwitchRow) (InRow NetRefusal)
net_switches_read ds = net_rows_read 0 net_switch_read [] ds

abbrev pub net_links_in : List SwitchRow → List Data → Result (List LinkRow) (InRow NetRefusal)
net_links_in switches ds = net_rows_read 100 (net_link_of switches) [] ds

-- the network that a document states, or its first refusal
abbrev pub net_read : Members → Result Net (InRow NetRefusal)
net_read table =
    with_toml_value (refusal_in_row 0 (net_number_or_default table (codes "leaf_rules") 1 8192 64)) (λ leaf_rules.
    with_toml_value (refusal_in_row 0 (net_number_or_default table (codes "backups") 0 3 0)) (λ backups.
    with_toml_value (refusal_in_row 0 (net_number_or_default table (codes "cache") 0 65536 256)) (λ cache.
    with_toml_value (refusal_in_row 0 (net_switch_array table)) (λ switch_values.
    with_toml_value (net_switches_read switch_values) (λ switches.
    with_toml_value (refusal_in_row 0 (net_link_array table)) (λ link_values.
    with_toml_value (net_links_in switches link_values) (λ links.
    Ok (record {
      switches = switches;
      links = links;
      leaf_rules = leaf_rules;
      backups = backups;
      cache = cache;
    }))))))))

-- the document of some bytes, as the crate `toml` reads UTF-8
abbrev pub toml_document_of : List ℕ → Option Members
toml_document_of bytes = if is_utf8 bytes then parse_document bytes else None

-- the network that a text states, or its first refusal
unfoldable pub net_of : List ℕ → Result Net (InRow NetRefusal)
net_of bytes = with_toml_value (refusal_in_row 0 (ok_or (toml_document_of bytes) refusal.Toml)) net_read
