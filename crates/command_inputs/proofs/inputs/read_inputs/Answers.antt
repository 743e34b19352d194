use Rattle.world.specs.Exports.{world_setting_at}
use Rattle.base.proofs.Exports.{ForSome, common_steps, length-map}
use Rattle.std.proofs.Common.{[], ◌+◌, ◌∙◌, ◌∷◌, ◌≡◌, Some, ap, arith, option_to_list, refl}
use Rattle.shelf.specs.Exports.{IsShelfAfterReads}
use Rattle.command_line.specs.Exports.{Replay, replay_arguments_named}
use Rattle.command_inputs.specs.Exports.{command_replay_inputs, command_input_most_reads, command_input_net_reads}
use Rattle.command_inputs.proofs.InputBegunNetwork.{all_are_events, as_many, asked_for, ends_in_check, few_named, inputs_are, inputs_then, plan_accounts, planned_inputs}
use Rattle.command_inputs.proofs.InputCalmReads.{stops_behind, stops_with}
use Rattle.command_inputs.proofs.InputRefusedNames.{among_behind, among_front, among_last, first_check}
use Rattle.command_inputs.proofs.InputShelfReads.{all_reads, fewer_reads, net_read, reads_then, schedule_read}
use Rattle.command_inputs.proofs.inputs.read_inputs.Goals as goal
use Rattle.command_inputs.proofs.inputs.read_inputs.Goals.{In_ok-files}
use Rattle.command_inputs.proofs.inputs.read_inputs.Given.{Over}

pub returns-in_err-net-clause-shelf : goal.returns-in_err-net-clause-shelf
returns-in_err-net-clause-shelf g c =
    let args = replay_arguments_named c.args.args.now in
    let net = c.in_err-net.ensures.shelf in
    stops_with (option_to_list args.net) _ _ _ _ c.in_err-net.field-0.0 c.from_residual.result
    c.from_residual.ensures.1 (among_front (option_to_list args.net) (args.schedule ∷ args.policies))
    (fewer_reads (command_input_net_reads args.net) _ _ _ (net_read _ args) net.after) net.calm net.stops

pub returns-in_err-events-clause-shelf : goal.returns-in_err-events-clause-shelf
returns-in_err-events-clause-shelf g c =
    let args = replay_arguments_named c.args.args.now in
    let net = c.in_ok-net.ensures.shelf in
    let events = c.in_err-events.ensures.shelf in
    let most = schedule_read _ args c.in_ok-net.net c.in_ok-net.ensures.read in
    stops_behind (args.schedule ∷ []) _ _ _ _ _ c.in_err-events.field-0.0
    c.from_residual-in_err-events.result c.from_residual-in_err-events.ensures.1
    (among_behind (option_to_list args.net) args.schedule args.policies)
    (reads_then (command_input_net_reads args.net) 1 _ _ _ _ most net.after events.after)
    net.after net.calm events.after events.calm events.stops

pub returns-in_err-files-clause-shelf : goal.returns-in_err-files-clause-shelf
returns-in_err-files-clause-shelf g c =
    let args = replay_arguments_named c.args.args.now in
    let net = c.in_ok-net.ensures.shelf in
    let events = c.in_ok-events.ensures.shelf in
    let files = rw c.deref-names.ensures.value at c.in_err-files.ensures.shelf in
    stops_behind args.policies _ _ _ _ _ c.in_err-files.field-0.0
    c.from_residual-in_err-files.result c.from_residual-in_err-files.ensures.1
    (among_last (option_to_list args.net) args.schedule args.policies)
    (all_reads args c.in_ok-net.net c.in_ok-events.events.items _ _ _ _ _ _
    (as_many _ _ c.deref-names.ensures.value) c.port_mask.ensures c.in_ok-net.ensures.read
    c.in_ok-events.ensures.read net.after events.after files.after)
    (reads_then (command_input_net_reads args.net) 1 (command_input_net_reads args.net + 1) _ _ _ (omega arith) net.after
    events.after) (events.calm ∙ net.calm) files.after files.calm files.stops

-- the network, the schedule and the policies are all that is read
policies_read : (g : Over) (c : In_ok-files g)
    → IsShelfAfterReads (command_input_most_reads (g.F.Shelf.state c.args.shelf.now).files
    (Some (Replay (replay_arguments_named c.args.args.now))))
    (g.F.Shelf.state c.args.shelf.now) (g.F.Shelf.state c.read_files.new.shelf)
policies_read g c = all_reads (replay_arguments_named c.args.args.now) c.in_ok-net.net
    c.in_ok-events.events.items _ _ _ _ _ _ (as_many _ _ c.deref-names.ensures.value)
    c.port_mask.ensures c.in_ok-net.ensures.read c.in_ok-events.ensures.read
    c.in_ok-net.ensures.shelf.after c.in_ok-events.ensures.shelf.after
    (rw c.deref-names.ensures.value at c.in_ok-files.ensures.shelf.after)

pub returns-in_err-world-clause-shelf : goal.returns-in_err-world-clause-shelf
returns-in_err-world-clause-shelf g c =
    let args = replay_arguments_named c.args.args.now in
    let named = length-map c.args.args.now.policies.items (λ n. n.now) in
    stops_with args.policies _ _ _ _ c.in_err-world.field-0.0
    c.from_residual-in_err-world.result c.from_residual-in_err-world.ensures.1
    (among_last (option_to_list args.net) args.schedule args.policies)
    (policies_read g (goal.at.returns-in_err-world-clause-shelf g c).In_ok-files)
    (λ may. c.in_ok-files.ensures.shelf.calm ∙ c.in_ok-events.ensures.shelf.calm
    ∙ c.in_ok-net.ensures.shelf.calm)
    (first_check args.policies c.in_ok-net.net c.in_ok-files.files.items
    c.in_err-world.field-0.0 (omega (arith, named, c.requires.0))
    (rw c.deref-names.ensures.value at c.in_err-world.ensures.stopped))

pub returns-clause-shelf : goal.returns-clause-shelf
returns-clause-shelf g c = record {
  after = policies_read g (goal.at.returns-clause-shelf g c).In_ok-files;
  calm = c.in_ok-files.ensures.shelf.calm ∙ c.in_ok-events.ensures.shelf.calm
      ∙ c.in_ok-net.ensures.shelf.calm;
  stops = tt;
}

pub returns-in_err-files-clause-read : goal.returns-in_err-files-clause-read
returns-in_err-files-clause-read g c =
    let net = c.in_ok-net.ensures.shelf.after in
    let events = c.in_ok-events.ensures.shelf.after in
    let files = c.in_err-files.ensures.shelf.after in grind (arith, common_steps)

-- all is read, and the first policy is left to be planned
left_to_plan : (g : Over) (c : In_ok-files g) → ForSome (g.F.Shelf.state c.args.shelf.now).files
    (λ files. command_replay_inputs files (replay_arguments_named c.args.args.now) ≡ planned_inputs (replay_arguments_named
    c.args.args.now) c.in_ok-net.net c.in_ok-files.files.items c.in_ok-events.events.items)
left_to_plan g c = let net_files = c.in_ok-net.ensures.shelf.after.same_files in
    inputs_then _ _ _ (replay_arguments_named c.args.args.now) c.in_ok-net.net c.in_ok-files.files.items
    c.in_ok-events.events.items _ _ net_files
    (c.in_ok-events.ensures.shelf.after.same_files ∙ net_files)
    (as_many _ _ c.deref-names.ensures.value) c.port_mask.ensures
    c.in_ok-net.ensures.read c.in_ok-events.ensures.read
    (rw c.deref-names.ensures.value at c.in_ok-files.ensures.read)

pub returns-in_err-world-clause-read : goal.returns-in_err-world-clause-read
returns-in_err-world-clause-read g c =
    let stopped = rw c.deref-names.ensures.value at c.in_err-world.ensures.stopped in
    ends_in_check _ _ _ (g.F.Shelf.state c.args.shelf.now) (g.F.Shelf.state c.read_files.new.shelf)
    c.in_err-world.field-0.0 c.from_residual-in_err-world.result
    c.from_residual-in_err-world.ensures.1 stopped
    (plan_accounts _ (replay_arguments_named c.args.args.now) c.in_ok-net.net c.in_ok-files.files.items
    c.in_ok-events.events.items c.in_err-world.field-0.0
    (left_to_plan g (goal.at.returns-in_err-world-clause-read g c).In_ok-files) stopped.0)

pub returns-clause-read : goal.returns-clause-read
returns-clause-read g c =
    inputs_are _ (replay_arguments_named c.args.args.now) c.in_ok-net.net c.in_ok-files.files.items
    c.in_ok-events.events.items (world_setting_at c.in_ok-world.world)
    (left_to_plan g (goal.at.returns-clause-read g c).In_ok-files)
    (rw c.deref-names.ensures.value at c.in_ok-world.ensures.planned) c.in_ok-world.ensures.begun.own

pub returns-clause-ready : goal.returns-clause-ready
returns-clause-ready g c = let begun = c.in_ok-world.ensures.begun in record {
  begun = record { own = refl; silent = begun.silent; able = begun.able };
  net = ap (λ s. s.net) begun.own;
  sound = record {
    setting = c.in_ok-world.ensures.sound;
    events = all_are_events c.in_ok-net.net c.in_ok-files.files.items _ _
        c.in_ok-events.events.items begun.own c.in_ok-files.ensures.many
        c.in_ok-events.ensures.sound.steps;
  };
  few = c.in_ok-events.ensures.sound.few;
}

pub returns-clause-asked : goal.returns-clause-asked
returns-clause-asked g c = asked_for (replay_arguments_named c.args.args.now) c.in_ok-net.net
    c.in_ok-files.files.items c.in_ok-events.events.items (world_setting_at c.in_ok-world.world)
    c.in_ok-net.ensures.named c.in_ok-world.ensures.begun.own
    (c.in_ok-files.ensures.many ∙ as_many _ _ c.deref-names.ensures.value)
    (few_named c.args.args.now.policies.items c.requires) c.in_ok-events.ensures.sound.few
    c.in_ok-files.ensures.few
