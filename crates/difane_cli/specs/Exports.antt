-- The definitions that clauses about the work of a task, up to its status, use, passed on from the
-- files that define them.
pub use Rattle.difane_cli.specs.Audits.{program_audit_yes_line, ProgramAuditEnded, ProgramAuditOutcome, ProgramReportTellsLines, IsProgramAuditJudged, IsProgramTraceGood}
pub use Rattle.difane_cli.specs.Ending.{ProgramGivesBackMeters, ProgramMemoryRanOut, IsProgramStatusAfterWork, ProgramMayWantMemory, ProgramStatusEndsWork}
pub use Rattle.difane_cli.specs.FlowLines.{AreProgramFlowsCounted, ProgramCountsFlows, program_flow_text, program_flow_text_unless_full, program_gone_records_by}
pub use Rattle.difane_cli.specs.Laws.{ProgramAnswerLaws}
pub use Rattle.difane_cli.specs.Metered.{ProgramTellsFlows, MeteredProgramOutcome, WritesProgramFlowCounts}
pub use Rattle.difane_cli.specs.NewMeters.{program_call_asks_flows, program_most_headers, new_program_meter, new_program_meters}
pub use Rattle.difane_cli.specs.Prints.{IsAfterProgramText, IsAfterProgramOutput, program_printing_text, ProgramPrintOutcome}
pub use Rattle.difane_cli.specs.Proposed.{ProgramProposes, IsAfterProgramProposal, IsAfterProgramProposing, ProgramProposalOutcome}
pub use Rattle.difane_cli.specs.Run.{AreProgramInputsStated, AreKnownProgramInputsStated, is_program_output_made, IsProgramAnswer, ProgramOutcome, Played, ProgramPlayedByReport, ProgramPlayedUnfinished, ProgramPlayOutcome, ProgramPlayWantsMemory, ProgramFileStates}
pub use Rattle.difane_cli.specs.Texts.{program_last_lines, program_meter_line_by, program_meter_line, program_meter_lines, program_notes_line, program_play_text, program_quiet_line, program_replay_text}
pub use Rattle.difane_cli.specs.Verdict.{program_asks_quiet, is_program_verdict_asked, IsProgramQuietVerdict, IsProgramVerdictOnQuiet, ProgramQuietVerdictSays}
pub use Rattle.difane_cli.specs.Writes.{ProgramOutputWrote, ProgramOutputWrotePart}
