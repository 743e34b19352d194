-- The parts of a world, and what is true of them.
use Rattle.std.specs.Prelude.{[], ◌++◌, ◌+◌, ◌<◌, ◌∷◌, ◌≡◌, ◌≤◌, Bool, List, OnErr, OnOk, Result, Some, false, length, ℕ}
use Rattle.controller.specs.Exports.{controller_newest_policy}
use Rattle.update_machine.specs.Exports.{Item, Setting, Step, journal_next_packet, piece, machine_setting_of}
use Rattle.journal.specs.declared.item.Item.TheVariants as item
use Rattle.net_file.specs.Exports.{AreNetPortOwners, IsNet}
use Rattle.steps.specs.Exports.{IsStep}
use Rattle.world.specs.State.{WorldValue, world_packets_coming_in}
use Rattle.refinement.specs.Exports.{RefinedNetworkState, RefineJournal}
use Rattle.world_log.specs.Exports.{IsLogPart}
use Rattle.world.specs.declared.parts.WorldParts.{WorldParts}

abbrev pub world_setting_in : WorldParts → Setting
world_setting_in parts = machine_setting_of parts.files.net parts.files.files

-- the table of the ports is the network's
pub record AreSoundWorldParts (parts : WorldParts) : Type 0 where
  pub sound : IsNet parts.files.net
  pub owners : AreNetPortOwners parts.files.net.switches parts.ports

-- changes are applied to the policy of the controller's newest version
abbrev pub WorldFilesHoldNewest : WorldParts → Type 0
WorldFilesHoldNewest parts = controller_newest_policy parts.controller ≡ Some parts.files.newest

-- the state of the parts, which their journal describes
abbrev pub world_state_in : WorldParts → RefinedNetworkState
world_state_in parts = record {
  switches = parts.switches.items;
  travelling = parts.log.travelling;
  packets = parts.packets;
  controller = parts.controller;
  posts = parts.log.bag;
  links = parts.links;
  near = parts.near;
}

-- the parts are as their journal says
abbrev pub WorldPartsRefineJournal : WorldParts → Type 0
WorldPartsRefineJournal parts = RefineJournal (world_setting_in parts) parts.log.journal (world_state_in parts)

-- ---- one step

-- the network, its ports and the files stay the same
pub record WorldPartsKeepNet (before after : WorldParts) : Type 0 where
  pub same_net : after.files.net ≡ before.files.net
  pub same_files : after.files.files ≡ before.files.files
  pub same_ports : after.ports ≡ before.ports

-- all parts stay the same but the switches, their usable links, the journal and the messages
pub record WorldPartsKeepRest (before after : WorldParts) : Type 0 where
  pub files : after.files ≡ before.files
  pub ports : after.ports ≡ before.ports
  pub links : after.links ≡ before.links
  pub packets : after.packets ≡ before.packets
  pub controller : after.controller ≡ before.controller
  pub travelling : after.log.travelling ≡ before.log.travelling

-- a step may be played on the parts, which are as this journal says
pub record IsWorldReadyForStep (before : List Item) (step : Step) (parts : WorldParts) : Type 0 where
  pub sound : AreSoundWorldParts parts
  pub refines : RefineJournal (world_setting_in parts) before (world_state_in parts)
  pub newest : WorldFilesHoldNewest parts
  pub may : IsStep parts.files.net (length parts.files.files) step
  pub few : journal_next_packet before ≤ 4_000_000_000
  pub room : length parts.log.bag < 990_000

-- and its row was written after that journal
pub record WorldBeginsStep (before : List Item) (row : ℕ) (step : Step) (parts : WorldParts) : Type 0 where
  pub ready : IsWorldReadyForStep before step parts
  pub rowed : parts.log.journal ≡ before ++ item.Row row step ∷ []

-- the parts after the step: its items are written, and then the parts are as the journal says; if
-- memory ran out, a part of the items is written
pub record WorldStepGoes {T E : Type 0} (result : Result T E) (before : List Item) (row : ℕ) (step : Step)
    (old new : WorldParts) : Type 0 where
  pub net : WorldPartsKeepNet old new
  pub newest : OnOk result (WorldFilesHoldNewest new)
  pub counted : OnOk result (new.packets ≡ old.packets + world_packets_coming_in step)
  pub written : OnOk result (new.log.journal ≡ before ++ piece (world_setting_in old) before row step)
  pub refines : OnOk result (WorldPartsRefineJournal new)
  pub part : OnErr result (IsLogPart before (piece (world_setting_in old) before row step) new.log.journal)

-- the step was begun
pub record WorldStepHasBegun (step : Step) (parts : WorldParts) : Type 0 where
  pub before : List Item
  pub row : ℕ
  pub begins : WorldBeginsStep before row step parts

-- the call plays a step that was begun
abbrev pub WorldPlaysStep : {T E : Type 0} → Step → Result T E → WorldParts → WorldParts → Type 0
WorldPlaysStep step result old new =
    (before : List Item) (row : ℕ) → WorldBeginsStep before row step old
    → WorldStepGoes result before row step old new

-- ---- a world

-- a world as contracts see it
abbrev pub world_value : WorldParts → Bool → WorldValue
world_value parts is_spent = record {
  net = parts.files.net;
  files = parts.files.files;
  journal = parts.log.journal;
  switches = parts.switches.items;
  travelling = parts.log.travelling;
  bag = parts.log.bag;
  packets = parts.packets;
  controller = parts.controller;
  links = parts.links;
  near = parts.near;
  is_spent = is_spent;
}

-- as long as memory didn't run out within a step, the parts are as their journal says
pub record IsWorld (parts : WorldParts) (is_spent : Bool) : Type 0 where
  pub sound : AreSoundWorldParts parts
  pub refines : is_spent ≡ false → WorldPartsRefineJournal parts
  pub newest : is_spent ≡ false → WorldFilesHoldNewest parts
