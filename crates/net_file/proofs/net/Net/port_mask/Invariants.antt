use Rattle.std.proofs.Common.{◌≡◌, take}
use Rattle.net_file.specs.Exports.{IsNetPortMask, net_switches_have_port}
use Rattle.net_file.proofs.net.Net.port_mask.Given as goal

abbrev pub invariant-loop-row : goal.invariant-loop-row
invariant-loop-row l = record {
  items : l.row-items ≡ l.self.switches;
  bits : IsNetPortMask l.mask (net_switches_have_port (take l.row-index l.row-items));
}
