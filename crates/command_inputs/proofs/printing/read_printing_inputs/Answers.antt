use Rattle.std.proofs.Common.{[], ◌∙◌, ◌∷◌, option_to_list}
use Rattle.command_line.specs.Exports.{print_arguments_named}
use Rattle.command_inputs.specs.Exports.{command_input_net_reads}
use Rattle.command_inputs.proofs.InputCalmReads.{stops_behind, stops_with}
use Rattle.command_inputs.proofs.InputRefusedNames.{among_behind, among_front, among_last}
use Rattle.command_inputs.proofs.InputShelfReads.{both_reads, fewer_reads, net_asked_read}
use Rattle.command_inputs.proofs.printing.read_printing_inputs.Goals as goal

pub returns-in_err-net-clause-shelf : goal.returns-in_err-net-clause-shelf
returns-in_err-net-clause-shelf g c =
    let args = print_arguments_named c.args.args.now in
    let net = c.in_err-net.ensures.shelf in
    stops_with (option_to_list args.net) _ _ _ _ c.in_err-net.field-0.0 c.from_residual.result
    c.from_residual.ensures.1
    (among_front (option_to_list args.net) (args.policy ∷ option_to_list args.switch))
    (fewer_reads (command_input_net_reads args.net) _ _ _ (net_asked_read _ args) net.after) net.calm net.stops

pub returns-in_err-switch-clause-shelf : goal.returns-in_err-switch-clause-shelf
returns-in_err-switch-clause-shelf g c =
    let args = print_arguments_named c.args.args.now in
    let net = c.in_ok-net.ensures.shelf in
    stops_with (option_to_list args.switch) _ _ _ _ c.in_err-switch.field-0.0
    c.from_residual-in_err-switch.result c.from_residual-in_err-switch.ensures.1
    (among_last (option_to_list args.net) args.policy (option_to_list args.switch))
    (fewer_reads (command_input_net_reads args.net) _ _ _ (net_asked_read _ args) net.after)
    (λ may. net.calm) c.in_err-switch.ensures.stops

pub returns-in_err-policy-clause-shelf : goal.returns-in_err-policy-clause-shelf
returns-in_err-policy-clause-shelf g c =
    let args = print_arguments_named c.args.args.now in
    let net = c.in_ok-net.ensures.shelf in
    let policy = c.in_err-policy.ensures.shelf in
    stops_behind (args.policy ∷ []) _ _ _ _ _ c.in_err-policy.field-0.0
    c.from_residual-in_err-policy.result c.from_residual-in_err-policy.ensures.1
    (among_behind (option_to_list args.net) args.policy (option_to_list args.switch))
    (both_reads args c.in_ok-net.net c.in_ok-switch.switch _ _ _ c.in_ok-net.ensures.read
    c.in_ok-switch.ensures.value net.after policy.after)
    net.after net.calm policy.after policy.calm policy.stops

pub returns-in_err-plan-clause-shelf : goal.returns-in_err-plan-clause-shelf
returns-in_err-plan-clause-shelf g c =
    let args = print_arguments_named c.args.args.now in
    let net = c.in_ok-net.ensures.shelf in
    stops_with (args.policy ∷ []) _ _ _ _ c.in_err-plan.field-0.0
    c.from_residual-in_err-plan.result c.from_residual-in_err-plan.ensures.1
    (among_behind (option_to_list args.net) args.policy (option_to_list args.switch))
    (both_reads args c.in_ok-net.net c.in_ok-switch.switch _ _ _ c.in_ok-net.ensures.read
    c.in_ok-switch.ensures.value net.after c.in_ok-policy.ensures.shelf.after)
    (λ may. c.in_ok-policy.ensures.shelf.calm ∙ net.calm) c.in_err-plan.ensures.stops

pub returns-clause-shelf : goal.returns-clause-shelf
returns-clause-shelf g c =
    let net = c.in_ok-net.ensures.shelf in
    let policy = c.in_ok-policy.ensures.shelf in record {
      after = both_reads (print_arguments_named c.args.args.now) c.in_ok-net.net c.in_ok-switch.switch _ _ _
          c.in_ok-net.ensures.read c.in_ok-switch.ensures.value net.after policy.after;
      calm = policy.calm ∙ net.calm;
      stops = tt;
    }
