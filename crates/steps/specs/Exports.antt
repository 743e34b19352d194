-- The definitions of this crate that others use, passed on from the files that define them.
pub use Rattle.steps.specs.Limits.{max_events}
pub use Rattle.steps.specs.Steps.{StepLinkExists, StepSwitchExists, IsEventOfSteps, IsStep, max_step_number}
