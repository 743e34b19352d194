use Rattle.std.proofs.Common.{[], ◌+◌, ◌≡◌, drop, length, map}
use Rattle.toml.specs.View.{view}
use Rattle.net_file.specs.Exports.{net_link_of, net_rows_read}
use Rattle.net_file.proofs.links.read_links.Given as goal

abbrev pub invariant-loop-value : goal.invariant-loop-value
invariant-loop-value l = record {
  rest : net_rows_read 100 (net_link_of l.switches) [] (map view l.values) ≡ net_rows_read 100
      (net_link_of l.switches) l.rows.items (map view (drop l.value-index l.values));
  count : length l.rows.items ≡ l.value-index;
  row : l.row ≡ 100 + l.value-index;
}
