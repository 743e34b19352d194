-- The grammar of the command line: a command, then options, then names, then options.
use Rattle.std.specs.Prelude.{[], if◌then◌else◌, ◌&&◌, ◌==◌, ◌||◌, ◌∷◌, Bool, List, None, Option, Some, bytes_eq, codes, drop, eqb, false, is_some, length, nat_le, nat_lt, not, option_and_then, slice_index, take, true, ℕ}
use Rattle.base.specs.Exports.{option_map_or, option_or, prefix_len, starts_with}
use Rattle.five_tuple.specs.Exports.{tuple_number_up_to}
use Rattle.command_line.specs.Commands.{Command, Replay, Print, Load, Audit}
use Rattle.command_line.specs.declared.report.Report.{Report}
use Rattle.command_line.specs.declared.report.Report.TheVariants as report

-- an argument that may name a file or a switch: it isn't empty and doesn't begin with a dash
abbrev pub is_name_argument : List ℕ → Bool
is_name_argument arg = nat_lt 0 (length arg) && not (slice_index arg 0 == 45)

-- ---- options

-- the network of an option `--net=NET`
abbrev pub joined_net_argument : List ℕ → Option (List ℕ)
joined_net_argument arg =
    if starts_with eqb arg (codes "--net=") && is_name_argument (drop 6 arg)
    then Some (drop 6 arg)
    else None

-- the network of an option `--net NET` of these arguments, and the arguments after it
abbrev pub cut_argument_option_pair : List ℕ → List (List ℕ) → Option (List ℕ × List (List ℕ))
cut_argument_option_pair option [] = None
cut_argument_option_pair option (net ∷ args) =
    if bytes_eq option (codes "--net") && is_name_argument net then Some (net, args) else None

-- the network of an option, in either form, that begins the arguments, and the arguments after it
abbrev pub cut_net_option_argument : List (List ℕ) → Option (List ℕ × List (List ℕ))
cut_net_option_argument [] = None
cut_net_option_argument (option ∷ args) =
    option_map_or (λ net. Some (net, args)) (joined_net_argument option) (cut_argument_option_pair option args)

-- the arguments after a flag `--quiet`, if they begin with it
abbrev pub cut_quiet_argument : List (List ℕ) → Option (List (List ℕ))
cut_quiet_argument [] = None
cut_quiet_argument (option ∷ args) = if bytes_eq option (codes "--quiet") then Some args else None

-- the options that begin some arguments, each at most once, and the arguments after them
pub record ArgumentOptionCut : Type 0 where
  pub net : Option (List ℕ)
  pub quiet : Bool
  pub args : List (List ℕ)

-- a network's option may follow the flag
abbrev pub quiet_argument_then_net : List (List ℕ) → ArgumentOptionCut
quiet_argument_then_net args = elim (cut_net_option_argument args) [
  | None ↦ record { net = None; quiet = true; args = args }
  | Some found ↦ record { net = Some found.0; quiet = true; args = found.1 }
]

-- a flag may follow the network's option
abbrev pub net_argument_then_quiet : List ℕ → List (List ℕ) → ArgumentOptionCut
net_argument_then_quiet net args = elim (cut_quiet_argument args) [
  | None ↦ record { net = Some net; quiet = false; args = args }
  | Some rest ↦ record { net = Some net; quiet = true; args = rest }
]

abbrev pub cut_argument_options : List (List ℕ) → ArgumentOptionCut
cut_argument_options args = elim (cut_quiet_argument args) [
  | Some rest ↦ quiet_argument_then_net rest
  | None ↦ elim (cut_net_option_argument args) [
    | None ↦ record { net = None; quiet = false; args = args }
    | Some found ↦ net_argument_then_quiet found.0 found.1
  ]
]

-- ---- the arguments after a command

-- names, and options before or after them
pub record StatedArgumentLine : Type 0 where
  pub names : List (List ℕ)
  pub net : Option (List ℕ)
  pub quiet : Bool

-- no option is given twice, and nothing follows the last ones
abbrev pub argument_options_end_together : ArgumentOptionCut → ArgumentOptionCut → Bool
argument_options_end_together front back =
    not (is_some front.net && is_some back.net) && not (front.quiet && back.quiet)
    && length back.args == 0

abbrev pub argument_line_from : ArgumentOptionCut → List (List ℕ) → ArgumentOptionCut → Option StatedArgumentLine
argument_line_from front names back = if argument_options_end_together front back then Some (record {
  names = names;
  net = option_or front.net back.net;
  quiet = front.quiet || back.quiet;
})
    else None

-- options, then names up to the next option or the end, then options
abbrev pub argument_line_of : List (List ℕ) → Option StatedArgumentLine
argument_line_of args =
    let front = cut_argument_options args in
    let count = prefix_len is_name_argument front.args in
    argument_line_from front (take count front.args) (cut_argument_options (drop count front.args))

-- ---- the commands

-- a play names at least one policy, and at most this many
abbrev pub most_policy_arguments : ℕ
most_policy_arguments = 64

abbrev pub may_be_policy_arguments : ℕ → Bool
may_be_policy_arguments count = nat_le 1 count && nat_le count most_policy_arguments

-- a play of these names that prints this
abbrev pub play_from_arguments : Report → StatedArgumentLine → List (List ℕ) → Option Command
play_from_arguments told line [] = None
play_from_arguments told line (schedule ∷ policies) =
    if may_be_policy_arguments (length policies)
    then Some (Replay (record {
      schedule = schedule;
      policies = policies;
      net = line.net;
      report = told;
    }))
    else None

abbrev pub replay_of_arguments : StatedArgumentLine → Option Command
replay_of_arguments line = play_from_arguments (report.Lines line.quiet) line line.names

-- `flows` has no flag
abbrev pub flows_of_arguments : StatedArgumentLine → Option Command
flows_of_arguments line = if line.quiet then None else play_from_arguments report.Flows line line.names

-- `rebalance` has no flag
abbrev pub rebalance_by_argument_grammar : StatedArgumentLine → Option Command
rebalance_by_argument_grammar line = if line.quiet then None else play_from_arguments report.Placement line line.names

abbrev pub print_from_arguments : StatedArgumentLine → List (List ℕ) → Option Command
print_from_arguments line (policy ∷ []) =
    Some (Print (record { policy = policy; switch = None; net = line.net }))
print_from_arguments line (policy ∷ switch ∷ []) =
    Some (Print (record { policy = policy; switch = Some switch; net = line.net }))
print_from_arguments line _ = None

-- `compile` or `show`, with this many names and no `--quiet`
abbrev pub argument_grammar_print_of : ℕ → StatedArgumentLine → Option Command
argument_grammar_print_of count line =
    if length line.names == count && not line.quiet then print_from_arguments line line.names else None

-- the greatest number of `load N`, and the number that these names are, if they are one
abbrev pub greatest_load_argument : ℕ
greatest_load_argument = 1000

abbrev pub load_number_argument : List (List ℕ) → Option ℕ
load_number_argument (number ∷ []) = tuple_number_up_to greatest_load_argument number
load_number_argument _ = None

abbrev pub load_from_argument : Option ℕ → Option Command
load_from_argument None = None
load_from_argument (Some n) = if nat_le 1 n then Some (Load n) else None

-- `load` has no option
abbrev pub load_of_arguments : StatedArgumentLine → Option Command
load_of_arguments line = if is_some line.net || line.quiet then None else load_from_argument (load_number_argument line.names)

-- an audit names as many policies as a replay may
abbrev pub audit_command_from_arguments : List (List ℕ) → Option Command
audit_command_from_arguments [] = None
audit_command_from_arguments (trace ∷ policies) =
    if may_be_policy_arguments (length policies)
    then Some (Audit (record { trace = trace; policies = policies }))
    else None

-- `audit` has no option
abbrev pub audit_by_argument_grammar : StatedArgumentLine → Option Command
audit_by_argument_grammar line = if is_some line.net || line.quiet then None else audit_command_from_arguments line.names

-- the command of this name, with these arguments after it
abbrev pub command_by_arguments : List ℕ → StatedArgumentLine → Option Command
command_by_arguments name line =
    if bytes_eq name (codes "replay") then replay_of_arguments line
    else if bytes_eq name (codes "flows") then flows_of_arguments line
    else if bytes_eq name (codes "rebalance") then rebalance_by_argument_grammar line
    else if bytes_eq name (codes "compile") then argument_grammar_print_of 1 line
    else if bytes_eq name (codes "show") then argument_grammar_print_of 2 line
    else if bytes_eq name (codes "load") then load_of_arguments line
    else if bytes_eq name (codes "audit") then audit_by_argument_grammar line
    else None

-- the command of these arguments; none if the grammar doesn't have them
abbrev pub command_of_arguments : List (List ℕ) → Option Command
command_of_arguments [] = None
command_of_arguments (name ∷ args) = option_and_then (command_by_arguments name) (argument_line_of args)
