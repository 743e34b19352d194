-- A world as contracts see it.
use Rattle.std.specs.Prelude.{[], ◌≡◌, Bool, List, false, ℕ}
use Rattle.message_bag.specs.Exports.{Post}
use Rattle.controller.specs.Exports.{ControllerValue}
use Rattle.update_machine.specs.Exports.{Item, Net, Packet, PolicyFile, Setting, Step, machine_setting_of}
use Rattle.switch_core.specs.Exports.{SwitchValue}
use Rattle.travelling.specs.Travelling.{TravellingFlights}
use Rattle.refinement.specs.Exports.{RefinedNetworkState, RefineJournal}

pub record WorldValue : Type 0 where
  pub net : Net
  pub files : List PolicyFile
  pub journal : List Item
  pub switches : List SwitchValue
  pub travelling : TravellingFlights
  -- the frames of the messages that were sent, and what became of each
  pub bag : List Post
  -- how many packets entered or were closed
  pub packets : ℕ
  pub controller : ControllerValue
  -- for each switch, as masks, the switches to which it has a link that is up, and those to which
  -- it has a usable one
  pub links : List ℕ
  pub near : List ℕ
  -- memory ran out within a step, so that no further one is taken
  pub is_spent : Bool

-- the setting of its journal
abbrev pub world_setting_at : WorldValue → Setting
world_setting_at world = machine_setting_of world.net world.files

-- ---- a world

-- all that it has
abbrev pub world_state_at : WorldValue → RefinedNetworkState
world_state_at world = record {
  switches = world.switches;
  travelling = world.travelling;
  packets = world.packets;
  controller = world.controller;
  posts = world.bag;
  links = world.links;
  near = world.near;
}

-- the world is as its journal says
abbrev pub WorldRefinesJournal : WorldValue → Type 0
WorldRefinesJournal world = RefineJournal (world_setting_at world) world.journal (world_state_at world)

-- nothing happened yet
pub record IsWorldBegun (setting : Setting) (world : WorldValue) : Type 0 where
  pub own : world_setting_at world ≡ setting
  pub silent : world.journal ≡ []
  pub able : world.is_spent ≡ false

-- how many packets enter or are closed in a step
abbrev pub world_packets_coming_in : Step → ℕ
world_packets_coming_in (Packet switch header) = 1
world_packets_coming_in _ = 0
