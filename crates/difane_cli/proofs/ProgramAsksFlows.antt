-- What is asked for by arguments that begin with `flows`.
use Rattle.base.proofs.Exports.{bytes_eq-Decides, ⊤}
use Rattle.std.proofs.Common.{[], ◌∷◌, ◌≡◌, Bool, List, None, Option, Some, codes, cond, false, length, option_and_then, refl, subst, sym, true, ℕ}
use Rattle.command_line.specs.Exports.{Command, Replay, StatedArgumentLine, command_by_arguments, command_of_arguments, argument_line_of, may_be_policy_arguments, play_from_arguments}
use Rattle.command_line.specs.declared.report.Report.TheVariants as report
use Rattle.difane_cli.specs.Exports.{program_call_asks_flows}

-- a command that there is tells flows
abbrev pub TellsIfAny : Option Command → Type 0
TellsIfAny None = ⊤
TellsIfAny (Some (Replay args)) = args.report ≡ report.Flows
TellsIfAny (Some _) = ⊥

play_tells : (line : StatedArgumentLine) (names : List (List ℕ))
    → TellsIfAny (play_from_arguments report.Flows line names)
play_tells line [] = tt
play_tells line (schedule ∷ policies) = go (may_be_policy_arguments (length policies)) where
  go : (b : Bool) → TellsIfAny (cond b (Some (Replay (record {
    schedule = schedule;
    policies = policies;
    net = line.net;
    report = report.Flows;
  }))) None)
  go true = refl
  go false = tt

line_tells : (found : Option StatedArgumentLine)
    → TellsIfAny (option_and_then (command_by_arguments (codes "flows")) found)
line_tells None = tt
line_tells (Some line) = go line.quiet where
  go : (quiet : Bool) → TellsIfAny (cond quiet None (play_from_arguments report.Flows line line.names))
  go true = tt
  go false = play_tells line line.names

pub flows_tell : (texts : List (List ℕ)) → program_call_asks_flows texts ≡ true → TellsIfAny (command_of_arguments texts)
flows_tell [] asks = tt
flows_tell (name ∷ args) asks =
    let is : name ≡ codes "flows" = (bytes_eq-Decides name (codes "flows")).0 asks in
    subst (λ word. TellsIfAny (option_and_then (command_by_arguments word) (argument_line_of args))) (sym is)
    (line_tells (argument_line_of args))
