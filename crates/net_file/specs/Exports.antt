-- The definitions that clauses of this crate use for networks and the files that state them,
-- passed on from the files that define them.
pub use Rattle.net_file.specs.Joins.{are_linked_in_net, net_switch_has_port, net_link_joins, net_port_owner}
pub use Rattle.net_file.specs.Keys.{net_value_at_key, toml_integer_within, toml_items_list, toml_number_within, net_value_of_type}
pub use Rattle.net_file.specs.Laws.{IsNetPortMask, IsPlainNetByte, NetNameLaws, NetLinkLaws, NetPortLaws}
pub use Rattle.net_file.specs.Net.{AreNetSwitchesApart, AreOtherNetLinks, IsNetLink, IsNet, IsNetSwitchRow, are_net_name_bytes, is_net_label, is_net_name, is_net_name_byte, net_switch_name_of, net_switch_names_text, net_of_one_switch}
pub use Rattle.net_file.specs.Owners.{AreNetPortOwners, have_net_switch_name, net_switches_have_port, links_of, port_mask, owner_in_net_ports, net_switch_number_named}
pub use Rattle.net_file.specs.Reading.{are_distinct_net_ports, are_new_net_ports, toml_array_in, toml_document_of, net_link_end_read, toml_ends_in, net_link_array, net_link_of, net_link_with, net_links_in, net_switch_name_at, toml_name_in, net_read, net_number_or_default, toml_integer_stated, net_port_bits, toml_port_read, net_switch_ports_at, toml_ports_in, toml_ports_of, net_rows_read, net_switch_array, net_switch_read, net_switch_with, net_switches_read}
unfoldable pub use Rattle.net_file.specs.Reading.{net_of}
pub use Rattle.net_file.specs.Refusals.{net_code, require_net_value, with_toml_value}
pub use Rattle.net_file.specs.Stated.{net_row_stated}
