use Rattle.std.proofs.Common.{◌<◌, ◌≡◌, ◌≤◌, All, IsSome, IsTrue, drop, length}
use Rattle.policy_file.specs.Exports.{policy_file_length, action_names_only_ports}
use Rattle.policy_rules.specs.Exports.{PolicyFileRowsAre, IsSoundPolicyFile}
use Rattle.world.specs.Exports.{world_first_file_policy}
use Rattle.command_line.specs.Exports.{argument_names_seen}
use Rattle.command_inputs.proofs.InputFileReads.{HasRead}
use Rattle.command_inputs.proofs.inputs.read_files.Given as goal

abbrev pub invariant-loop-name : goal.invariant-loop-name
invariant-loop-name g l = record {
  read : HasRead l.ports (argument_names_seen l.names) (drop l.name-index (argument_names_seen l.names)) l.read.items
      (g.F.Shelf.state l.fn.shelf) (g.F.Shelf.state l.shelf);
  many : length l.read.items ≡ l.name-index;
  first : 0 < l.name-index → IsSome (world_first_file_policy l.read.items);
  own_ports : All (PolicyFileRowsAre (λ row. IsTrue (action_names_only_ports l.ports row.action))) l.read.items;
  sound : All IsSoundPolicyFile l.read.items;
  few : All (λ file. policy_file_length file ≤ 2000) l.read.items;
  calm : (g.F.Shelf.state l.shelf).faults ≡ (g.F.Shelf.state l.fn.shelf).faults;
}
