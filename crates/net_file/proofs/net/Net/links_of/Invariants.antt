use Rattle.std.proofs.Common.{◌<◌, ◌^◌, ◌≡◌, take}
use Rattle.net_file.specs.Exports.{IsNetPortMask, are_linked_in_net}
use Rattle.net_file.proofs.net.Net.links_of.Given as goal

abbrev pub invariant-loop-link : goal.invariant-loop-link
invariant-loop-link l = record {
  items : l.link-items ≡ l.self.links;
  small : l.mask < 2 ^ 64;
  bits : IsNetPortMask l.mask (are_linked_in_net (take l.link-index l.link-items) l.switch);
}
