use Rattle.std.proofs.Common.{arith, subst}
use Rattle.base.proofs.Exports.{common_steps}
use Rattle.command_line.specs.Exports.{argument_names_seen}
use Rattle.command_inputs.proofs.InputBegunNetwork.{has_plan, sound_by_tie}
use Rattle.update_machine.specs.Exports.{IsMachineSetting, machine_setting_of}
use Rattle.world.proofs.BegunWorld.{first_plans}
use Rattle.world.specs.Exports.{IsWorldBegun}
use Rattle.command_inputs.proofs.policies.begin_world_of_inputs.Goals as goal

pub returns-clause-planned : goal.returns-clause-planned
returns-clause-planned c =
    let net = c.args.net.now in
    let files = c.args.files.items in
    let begun : IsWorldBegun (machine_setting_of net files) c.in_ok-world.world = grind (arith, common_steps) in
    let sound = sound_by_tie c.in_ok-world.world begun.able c.refines.ensures in
    has_plan (argument_names_seen c.args.names.now) net files
    (first_plans net files (subst IsMachineSetting begun.own sound) c.requires.first)

pub returns-clause-sound : goal.returns-clause-sound
returns-clause-sound c =
    let begun : IsWorldBegun (machine_setting_of c.args.net.now c.args.files.items) c.in_ok-world.world =
    grind (arith, common_steps) in
    sound_by_tie c.in_ok-world.world begun.able c.refines.ensures
