-- First tier. The steps that a network may take: they name switches and links that it has, and
-- policy files that exist.
use Rattle.std.specs.Prelude.{◌<◌, ◌≤◌, IsTrue, length, ℕ, ⊤}
use Rattle.five_tuple.specs.Exports.{IsHeader}
use Rattle.net_file.specs.Exports.{are_linked_in_net}
use Rattle.net_file.specs.declared.net.Net.{Net}
use Rattle.steps.specs.declared.step.Event.{Event}
use Rattle.steps.specs.declared.step.Event.TheVariants.{One, Flush, Drain}
use Rattle.steps.specs.declared.step.Step.{Step}
use Rattle.steps.specs.declared.step.Step.TheVariants as step

-- the greatest number by which a step names a packet, a message or a place of a cache
abbrev pub max_step_number : ℕ
max_step_number = 999_999_999

-- the network has a switch of this number
abbrev pub StepSwitchExists : Net → ℕ → Type 0
StepSwitchExists net switch = switch < length net.switches

-- one of its links joins these switches
abbrev pub StepLinkExists : Net → ℕ → ℕ → Type 0
StepLinkExists net one two = IsTrue (are_linked_in_net net.links one two)

-- a step of this network, if this many policy files are named
abbrev pub IsStep : Net → ℕ → Step → Type 0
IsStep net files (step.Packet switch header) = StepSwitchExists net switch × IsHeader header
IsStep net files (step.Hop packet) = packet ≤ max_step_number
IsStep net files (step.Lose packet) = packet ≤ max_step_number
IsStep net files (step.Deliver message) = message ≤ max_step_number
IsStep net files (step.Forget message) = message ≤ max_step_number
IsStep net files (step.Expire switch place) = StepSwitchExists net switch × (place ≤ max_step_number)
IsStep net files (step.Update file) = (1 ≤ file) × (file ≤ files)
IsStep net files (step.LinkDown one two) = StepLinkExists net one two
IsStep net files (step.LinkUp one two) = StepLinkExists net one two
IsStep net files (step.Crash switch) = StepSwitchExists net switch
IsStep net files (step.Restart switch) = StepSwitchExists net switch
IsStep net files (step.Confirm switch) = StepSwitchExists net switch
IsStep net files (step.Resend switch) = StepSwitchExists net switch

-- an event whose steps are of this network
abbrev pub IsEventOfSteps : Net → ℕ → Event → Type 0
IsEventOfSteps net files (One step) = IsStep net files step
IsEventOfSteps net files Flush = ⊤
IsEventOfSteps net files Drain = ⊤
