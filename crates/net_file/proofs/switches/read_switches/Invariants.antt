use Rattle.std.proofs.Common.{[], ◌≡◌, drop, length, map}
use Rattle.toml.specs.View.{view}
use Rattle.net_file.specs.Exports.{IsNetPortMask, net_switches_have_port, net_rows_read, net_switch_read}
use Rattle.net_file.proofs.switches.read_switches.Given as goal

abbrev pub invariant-loop-value : goal.invariant-loop-value
invariant-loop-value l = record {
  rest : net_rows_read 0 net_switch_read [] (map view l.values) ≡ net_rows_read 0 net_switch_read l.rows.items
      (map view (drop l.value-index l.values));
  count : length l.rows.items ≡ l.value-index;
  row : l.row ≡ l.value-index;
  taken : IsNetPortMask l.taken (net_switches_have_port l.rows.items);
}
