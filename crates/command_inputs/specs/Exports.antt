-- The definitions that clauses about what a command reads use, passed on from the files that define
-- them.
pub use Rattle.command_inputs.specs.Asked.{AreCommandPlayInputs, AreCommandInputsOfReplay, MayPlayCommandInputs}
pub use Rattle.command_inputs.specs.PrintsAndAudits.{IsAuditInputOf, IsPrintInputOf, IsCommandInputSwitch}
pub use Rattle.command_inputs.specs.Codes.{command_input_first_change_code, command_input_missing_file_code, command_input_most_file_bytes, command_input_most_trace_bytes, command_input_too_long_code}
pub use Rattle.command_inputs.specs.Commands.{AreCommandInputsReady, command_input_audit_stated, IsTaskInputReady, IsCommandInputTask, print_inputs_stated, task_inputs_stated, command_input_task_stated}
pub use Rattle.command_inputs.specs.Ending.{CommandInputReadEnds, CommandInputReadsFor, CommandInputReadsNothing, CommandInputStopsCheck, CommandInputStopsText, IsCalmCommandInputRead, IsOneOfCommandInputNames, CommandMayFollowFault, command_input_names, CommandStatusNamesOneOf, CommandNeedsReadFault, ReadsFiles, RefusesInput, command_status_after, command_unwritten_status, command_written_status, command_status_number, command_status_of, CommandStatusAccounts, CommandInputStopNamesOneOf}
pub use Rattle.command_inputs.specs.Inputs.{and_then_command_input, command_audit_inputs, command_input_load_case_files, command_inputs_of_load, command_input_file_reads, command_input_net_reads, command_input_content, first_command_input_stated, input_first_plan, input_file_stated, input_plan_from, input_plan_on, input_read_from, input_stated_as, input_with_ports, IsCommandInputTaskAccepted, known_command_input_task, command_load_input_name, load_inputs_or_refusal, command_input_most_reads, command_input_net_stated, command_input_play_task, input_policy_stated, command_print_inputs, read_file, command_input_files, read_net, read_policy, read_schedule, input_file_refused_whole, command_replay_inputs, command_input_schedule_in, command_input_content_from, command_input_content_within, command_input_solo_ports, command_input_switch_named, command_input_task_of, input_files_to_refusal}
pub use Rattle.command_inputs.specs.StatusLines.{command_input_line, command_numbered_line, CommandOutputWritesLine, command_status_line}
pub use Rattle.command_inputs.specs.Tasks.{Audit, CommandAuditInputs, Inputs, IsCommandInputNetOf, Play, Print, CommandPrintInputs, CommandInputTask}
