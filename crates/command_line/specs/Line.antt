-- What the crate `clap` is given for the arguments after a command.
use Rattle.std.specs.Prelude.{[], ◌∷◌, ◌≡◌, Bool, List, None, Option, Some, codes, false, fold, true, ℕ}
use Rattle.clap.specs.Walk.{Rule, Text}
use Rattle.clap.specs.Simple.{App, new_app, new_rule, on_top, with_rule}
use Rattle.clap.specs.Lexer.{usize_max}
use Rattle.clap.specs.Values.{bool_text}
use Rattle.clap.specs.declared.builder.action.ArgAction.TheVariants.{Append, Set, SetTrue}
use Rattle.command_line.specs.Named.{argument_command_kind_name}
use Rattle.command_line.specs.declared.grammar.CommandKind.{CommandKind}
use Rattle.command_line.specs.declared.grammar.CommandKind.TheVariants as kind

-- names, at least one
abbrev pub argument_names_rule : Rule
argument_names_rule = record (new_rule (codes "names")) {
  action = Some Append;
  range = Some (record { start_inclusive = 1; end_inclusive = usize_max });
}

abbrev pub argument_net_rule : Rule
argument_net_rule = record (new_rule (codes "net")) { long = Some (codes "net"); action = Some Set }

abbrev pub quiet_argument : Rule
quiet_argument = record (new_rule (codes "quiet")) { long = Some (codes "quiet"); action = Some SetTrue }

-- the options that a command takes: none, or a network's, and perhaps the flag
pub data CommandLineOptions : Type 0 where
  none : CommandLineOptions
  net_and : Bool → CommandLineOptions

abbrev pub argument_options_of_kind : CommandKind → CommandLineOptions
argument_options_of_kind kind.Replay = net_and true
argument_options_of_kind kind.Flows = net_and false
argument_options_of_kind kind.Rebalance = net_and false
argument_options_of_kind kind.Compile = net_and false
argument_options_of_kind kind.Show = net_and false
argument_options_of_kind kind.Load = none
argument_options_of_kind kind.Audit = none

abbrev pub argument_flag_rules : Bool → List Rule
argument_flag_rules true = quiet_argument ∷ []
argument_flag_rules false = []

abbrev pub argument_option_rules : CommandLineOptions → List Rule
argument_option_rules none = []
argument_option_rules (net_and flag) = argument_net_rule ∷ argument_flag_rules flag

-- only names and these options; the last of two options of one name counts, but none occurs twice
abbrev pub argument_app_with : List ℕ → CommandLineOptions → App
argument_app_with name options = on_top (λ s. record s { args_override_self = true })
    (fold with_rule (new_app name) (argument_names_rule ∷ argument_option_rules options))

-- each command has its own app
abbrev pub argument_app_of_command : CommandKind → App
argument_app_of_command k = argument_app_with (argument_command_kind_name k) (argument_options_of_kind k)

-- ---- what is read of the matches

-- a network, if the command takes one
abbrev pub IsNetArgumentRead : CommandLineOptions → Option Text → Option Text → Type 0
IsNetArgumentRead none found net = net ≡ None
IsNetArgumentRead (net_and flag) found net = net ≡ found

-- the flag, if the command takes it
abbrev pub IsArgumentFlagRead : CommandLineOptions → Option Text → Bool → Type 0
IsArgumentFlagRead none found quiet = quiet ≡ false
IsArgumentFlagRead (net_and false) found quiet = quiet ≡ false
IsArgumentFlagRead (net_and true) found quiet = found ≡ Some (bool_text quiet)
