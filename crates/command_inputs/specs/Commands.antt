-- The values of the definitions that contracts see for what a command read.
use Rattle.std.specs.Prelude.{◌≡◌, ◌≤◌, length, ⊤}
use Rattle.net_file.specs.Exports.{IsNet}
use Rattle.steps.specs.Exports.{max_events}
use Rattle.world.specs.Exports.{IsWorldBegun, world_setting_at}
use Rattle.command_inputs.specs.Asked.{AreCommandPlayInputs, MayPlayCommandInputs}
use Rattle.command_inputs.specs.PrintsAndAudits.{IsAuditInputOf, IsPrintInputOf}
use Rattle.command_inputs.specs.Tasks.{CommandAuditInputs, Inputs, CommandPrintInputs, CommandInputTask, Audit, Play, Print}
use Rattle.command_line.specs.Commands as grammar
use Rattle.command_inputs.specs.declared.auditing.AuditInputs.{AuditInputs}
use Rattle.command_inputs.specs.declared.inputs.PlayInputs.{PlayInputs}
use Rattle.command_inputs.specs.declared.printing.PrintInputs.{PrintInputs}
use Rattle.command_inputs.specs.declared.task.Task as declared_task
use Rattle.command_inputs.specs.declared.task.Task.TheVariants as asked

-- the inputs that were read
abbrev pub task_inputs_stated : PlayInputs → Inputs
task_inputs_stated inputs = record {
  setting = world_setting_at inputs.world;
  events = inputs.events.items;
  report = inputs.report;
}

abbrev pub print_inputs_stated : PrintInputs → CommandPrintInputs
print_inputs_stated inputs = record {
  policy = inputs.plan.policy;
  net = inputs.net;
  hosted = inputs.plan.hosted;
  switch = inputs.switch;
}

abbrev pub command_input_audit_stated : AuditInputs → CommandAuditInputs
command_input_audit_stated inputs = record { trace = inputs.trace.items; files = inputs.files.items }

abbrev pub command_input_task_stated : declared_task.Task → CommandInputTask
command_input_task_stated (asked.Play inputs) = Play (task_inputs_stated inputs)
command_input_task_stated (asked.Print inputs) = Print (print_inputs_stated inputs)
command_input_task_stated (asked.Audit inputs) = Audit (command_input_audit_stated inputs)

-- in the world of a play nothing happened yet, its network is the one that was read, and the
-- events may happen on it
pub record AreCommandInputsReady (inputs : PlayInputs) : Type 0 where
  pub begun : IsWorldBegun (world_setting_at inputs.world) inputs.world
  pub net : inputs.world.net ≡ inputs.net
  pub sound : MayPlayCommandInputs (task_inputs_stated inputs)
  pub few : length inputs.events.items ≤ max_events

-- what is required of a task before its work; nothing of a trace
abbrev pub IsTaskInputReady : declared_task.Task → Type 0
IsTaskInputReady (asked.Play inputs) = AreCommandInputsReady inputs
IsTaskInputReady (asked.Print inputs) = IsNet inputs.net
IsTaskInputReady (asked.Audit inputs) = ⊤

-- the task is of the command's kind, and is as the command names it
abbrev pub IsCommandInputTask : grammar.Command → CommandInputTask → Type 0
IsCommandInputTask command (Play inputs) = AreCommandPlayInputs command inputs
IsCommandInputTask (grammar.Print args) (Print printing) = IsPrintInputOf args printing
IsCommandInputTask (grammar.Audit args) (Audit auditing) = IsAuditInputOf args auditing
IsCommandInputTask _ _ = ⊥
