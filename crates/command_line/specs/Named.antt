-- The arguments that were read, by the grammar's code or by `clap`, as contracts see them.
use Rattle.std.specs.Prelude.{◌≤◌, List, Option, String, codes, length, map, option_and_then, option_map, string_bytes, ℕ, ⊤}
use Rattle.base.specs.Exports.{Bor, Global}
use Rattle.command_line.specs.Grammar as grammar
use Rattle.command_line.specs.Commands as grammar_commands
use Rattle.command_line.specs.Grammar.{command_by_arguments, argument_line_of, greatest_load_argument, most_policy_arguments}
use Rattle.command_line.specs.Others.{AuditArguments, PrintArguments}
use Rattle.command_line.specs.declared.command.AuditArgs.{AuditArgs}
use Rattle.command_line.specs.declared.command.Command.{Command}
use Rattle.command_line.specs.declared.command.Command.TheVariants as given
use Rattle.command_line.specs.declared.command.PrintArgs.{PrintArgs}
use Rattle.command_line.specs.declared.command.ReplayArgs.{ReplayArgs}
use Rattle.command_line.specs.declared.grammar.Cut.{Cut}
use Rattle.command_line.specs.declared.grammar.CommandKind.{CommandKind}
use Rattle.command_line.specs.declared.grammar.CommandKind.TheVariants as kind
use Rattle.command_line.specs.declared.grammar.ArgumentParts.{ArgumentParts}
use Rattle.command_line.specs.declared.read.ArgumentLine.{ArgumentLine}

-- the bytes of a name, if there is one; and those of each name of a list
abbrev pub argument_name_seen : Option (Bor (List ℕ)) → Option (List ℕ)
argument_name_seen name = option_map (λ n. n.now) name

abbrev pub argument_names_seen : List (Bor (List ℕ)) → List (List ℕ)
argument_names_seen names = map (λ n. n.now) names

abbrev pub replay_arguments_named : ReplayArgs → grammar_commands.ReplayArguments
replay_arguments_named args = record {
  schedule = args.schedule.now;
  policies = argument_names_seen args.policies.items;
  net = argument_name_seen args.net;
  report = args.report;
}

abbrev pub print_arguments_named : PrintArgs → PrintArguments
print_arguments_named args =
    record { policy = args.policy.now; switch = argument_name_seen args.switch; net = argument_name_seen args.net }

abbrev pub audit_arguments_named : AuditArgs → AuditArguments
audit_arguments_named args = record { trace = args.trace.now; policies = argument_names_seen args.policies.items }

-- the command that names these files
abbrev pub argument_command_seen : Command → grammar_commands.Command
argument_command_seen (given.Replay args) = grammar_commands.Replay (replay_arguments_named args)
argument_command_seen (given.Print args) = grammar_commands.Print (print_arguments_named args)
argument_command_seen (given.Load n) = grammar_commands.Load n
argument_command_seen (given.Audit args) = grammar_commands.Audit (audit_arguments_named args)

-- the arguments name a right number of policies, from 1 to 64, or of a load case, from 1 to 1,000
abbrev pub MayBePolicyArguments : ℕ → Type 0
MayBePolicyArguments count = (1 ≤ count) × (count ≤ most_policy_arguments)

abbrev pub HasPolicyArguments : ReplayArgs → Type 0
HasPolicyArguments args = MayBePolicyArguments (length args.policies.items)

abbrev pub ArgumentsNamePolicies : Command → Type 0
ArgumentsNamePolicies (given.Replay args) = HasPolicyArguments args
ArgumentsNamePolicies (given.Print args) = ⊤
ArgumentsNamePolicies (given.Load n) = (1 ≤ n) × (n ≤ greatest_load_argument)
ArgumentsNamePolicies (given.Audit args) = MayBePolicyArguments (length args.policies.items)

-- the line that was read
abbrev pub argument_line_seen : ArgumentLine → grammar.StatedArgumentLine
argument_line_seen line = record {
  names = argument_names_seen line.names.items;
  net = argument_name_seen line.net;
  quiet = line.quiet;
}

-- ---- the test of the grammar

-- the options and arguments that were cut, and the parts of a line
abbrev pub argument_option_cut_seen : Cut → grammar.ArgumentOptionCut
argument_option_cut_seen cut = record {
  net = argument_name_seen cut.net;
  quiet = cut.quiet;
  args = map string_bytes cut.args.now;
}

abbrev pub argument_parts_seen : ArgumentParts → grammar.StatedArgumentLine
argument_parts_seen parts = record {
  names = map string_bytes parts.names.now;
  net = argument_name_seen parts.net;
  quiet = parts.quiet;
}

-- the name of this kind of command
abbrev pub argument_command_kind_name : CommandKind → List ℕ
argument_command_kind_name kind.Replay = codes "replay"
argument_command_kind_name kind.Flows = codes "flows"
argument_command_kind_name kind.Rebalance = codes "rebalance"
argument_command_kind_name kind.Compile = codes "compile"
argument_command_kind_name kind.Show = codes "show"
argument_command_kind_name kind.Load = codes "load"
argument_command_kind_name kind.Audit = codes "audit"

-- the command of this kind with these arguments after its name
abbrev pub argument_command_of_kind : CommandKind → List (List ℕ) → Option grammar_commands.Command
argument_command_of_kind kind args = option_and_then (command_by_arguments (argument_command_kind_name kind)) (argument_line_of args)

-- the network of an option, and the arguments after it
abbrev pub argument_option_pair_seen : Bor (List ℕ) × Bor (List (String Global)) → List ℕ × List (List ℕ)
argument_option_pair_seen (net, args) = (net.now, map string_bytes args.now)
