-- The definitions of this crate that others use, passed on from the files that define them.
pub use Rattle.command_line.specs.Commands.{Audit, AuditArguments, Command, Print, PrintArguments, Replay, ReplayArguments, argument_texts}
pub use Rattle.command_line.specs.Grammar.{ArgumentOptionCut, StatedArgumentLine, audit_command_from_arguments, audit_by_argument_grammar, command_by_arguments, command_of_arguments, cut_net_option_argument, cut_argument_options, cut_argument_option_pair, cut_quiet_argument, argument_options_end_together, is_name_argument, joined_net_argument, argument_line_of, load_from_argument, load_number_argument, load_of_arguments, may_be_policy_arguments, most_policy_arguments, net_argument_then_quiet, play_from_arguments, argument_grammar_print_of, quiet_argument_then_net}
pub use Rattle.command_line.specs.Line.{IsArgumentFlagRead, IsNetArgumentRead, CommandLineOptions, argument_app_with, argument_app_of_command, argument_names_rule, net_and, argument_net_rule, none, argument_options_of_kind, quiet_argument}
pub use Rattle.command_line.specs.Named.{MayBePolicyArguments, audit_arguments_named, argument_command_of_kind, argument_command_seen, argument_command_kind_name, argument_names_seen, print_arguments_named, replay_arguments_named}
