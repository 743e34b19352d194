use Rattle.std.proofs.Common.{◌<◌, ◌^◌, ◌||◌, ◌≡◌, drop, filter_map, map, nat_eq, ℕ}
use Rattle.base.proofs.Exports.{list_any}
use Rattle.toml.specs.View.{view}
use Rattle.net_file.specs.Exports.{toml_port_read}
use Rattle.net_file.proofs.NetFilePortMasks.{in_mask}
use Rattle.net_file.proofs.NetFileFreshPorts.{are_fresh}
use Rattle.net_file.proofs.switches.new_net_ports.Given as goal

abbrev pub invariant-loop-value : goal.invariant-loop-value
invariant-loop-value l = record {
  fresh : are_fresh l.taken (filter_map toml_port_read (map view l.values)) ≡ are_fresh l.seen
      (filter_map toml_port_read (map view (drop l.value-index l.values)));
  small : l.ports < 2 ^ 64;
  ports : (k : ℕ) → list_any (nat_eq k) (filter_map toml_port_read (map view l.values))
      ≡ (in_mask l.ports k || list_any (nat_eq k)
      (filter_map toml_port_read (map view (drop l.value-index l.values))));
}
