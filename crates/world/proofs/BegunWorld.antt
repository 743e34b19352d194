-- The parts of a world in which nothing happened yet are as the empty journal says.
use Rattle.std.proofs.Common.{[], ◌∷◌, ◌≡◌, IsOk, IsSome, List, Ok, refl, subst, sym, unwrap_or, ℕ}
use Rattle.message_bag.specs.Exports.{Post}
use Rattle.controller.specs.Exports.{ControllerValue, ControllerPlanValue}
use Rattle.update_machine.specs.Exports.{Change, IsMachineSetting, Item, Net, PolicyFile, Ports, Whole, machine_setting_of}
use Rattle.net_file.specs.Exports.{AreNetPortOwners, IsNet}
use Rattle.partition.specs.Plan.{partition_plan_of}
use Rattle.world.specs.Exports.{WorldFilesValue, IsWorldFileCompiled, world_first_file_policy}
use Rattle.world.specs.declared.files.Compiled.TheVariants.{Planned}
use Rattle.switch_core.specs.Exports.{SwitchValue}
use Rattle.travelling.specs.Travelling.{TravellingFlights}
use Rattle.update_machine.proofs.UpdateMachineCallerLemmas.{first_planned}
use Rattle.refinement.specs.Exports.{RefineJournal}
use Rattle.switch_table.specs.Exports.{cache_all_touched}

-- where the files are these, on this network, and nothing was written, posted or sent
-- on its way
pub as_begun : (net : Net) (given : List PolicyFile) (files : WorldFilesValue) (journal : List Item)
    (travelling : TravellingFlights) (bag : List Post) (switches : List SwitchValue)
    (controller : ControllerValue) (near : List ℕ) → files.net ≡ net → files.files ≡ given
    → journal ≡ [] → travelling ≡ [] → bag ≡ [] → RefineJournal (machine_setting_of net given) [] (record {
      switches = switches;
      travelling = [];
      packets = 0;
      controller = controller;
      posts = [];
      links = near;
      near = near;
    }) → RefineJournal (machine_setting_of files.net files.files) journal (record {
      switches = switches;
      travelling = travelling;
      packets = 0;
      controller = controller;
      posts = bag;
      links = near;
      near = near;
    })
as_begun net given files journal travelling bag switches controller near of_net of_files
    silent still none refines = rw (of_net, of_files, silent, still, none) refines

-- in a sound setting that has a plan
pub first_plans : (net : Net) (files : List PolicyFile) → IsMachineSetting (machine_setting_of net files)
    → IsSome (world_first_file_policy files) → IsOk (partition_plan_of (unwrap_or (world_first_file_policy files) []) net)
first_plans net [] is whole = absurd cc
first_plans net (Whole rows ∷ files) is whole = first_planned net (Whole rows ∷ files) rows is refl
first_plans net (Change edits ∷ files) is whole = absurd cc

-- a copy of a plan on a copy of the network is one
pub plan_copied : (net own : Net) (plan copy : ControllerPlanValue) → own ≡ net → copy ≡ plan
    → partition_plan_of plan.policy net ≡ Ok plan.hosted
    → IsWorldFileCompiled own (Ok copy.policy, cache_all_touched) (Planned copy cache_all_touched)
plan_copied net own plan copy same as_it is =
    record { policy = refl; planned = rw (same, as_it) is; told_is = refl }

-- and so are its ports
pub owners_begun : (net other : Net) (ports : Ports) → other ≡ net
    → AreNetPortOwners net.switches ports → AreNetPortOwners other.switches ports
owners_begun net other ports is owners = rw is owners

pub net_begun : (net other : Net) → other ≡ net → IsNet net → IsNet other
net_begun net other is sound = subst IsNet (sym is) sound
