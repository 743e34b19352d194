-- What a world has at its beginning.
use Rattle.std.specs.Prelude.{◌≡◌, List, length, map, ℕ}
use Rattle.base.specs.Exports.{range_with_len}
use Rattle.controller.specs.Exports.{ControllerValue, ControllerPlanValue, controller_at_start}
use Rattle.failover.specs.Exports.{first_adverts}
use Rattle.net_file.specs.Exports.{links_of}
use Rattle.update_machine.specs.Exports.{Net}
use Rattle.switch_core.specs.Exports.{SwitchValue, new_switch}
use Rattle.switch_table.specs.Exports.{HostedPolicyPartition, tables_of}

-- a switch at the beginning of its first boot, with the tables of this plan
abbrev pub refined_switch_begun : Net → List HostedPolicyPartition → ℕ → SwitchValue
refined_switch_begun net plan s = new_switch s net.cache (tables_of plan 1 s)
    (first_adverts (map (links_of net.links) (range_with_len 0 (length net.switches)))
    (length net.switches))

-- the network's controller at its beginning, with some plan
abbrev pub IsRefinedFirstController : Net → ControllerValue → Type 0
IsRefinedFirstController net controller =
    (plan : ControllerPlanValue) × (controller ≡ controller_at_start (length net.switches) plan)
