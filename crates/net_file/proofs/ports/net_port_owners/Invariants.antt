use Rattle.std.proofs.Common.{◌<◌, ◌≡◌, None, length, slice_index_or, ℕ}
use Rattle.net_file.specs.Exports.{net_port_owner}
use Rattle.net_file.proofs.ports.net_port_owners.Given as goal

abbrev pub invariant-loop-port : goal.invariant-loop-port
invariant-loop-port l = record {
  size : length l.owners ≡ 64;
  owners : (k : ℕ) → k < l.port → slice_index_or l.owners k None ≡ net_port_owner l.switches k;
}
