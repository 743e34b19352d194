use Rattle.std.proofs.Common.{◌≤◌, arith, length, subst, sym}
use Rattle.schedule.specs.Case.{LoadCase, load_case_seen}
use Rattle.command_inputs.proofs.InputBegunNetwork.{AreDrawn, are_drawn}
use Rattle.command_inputs.proofs.load.draw_inputs.Goals as goal
use Rattle.command_inputs.proofs.load.draw_inputs.Goals.{In_ok-files}

drawn : (c : In_ok-files) → AreDrawn (load_case_seen c.in-Ok.case) c.in_ok-files.files.items
drawn c = are_drawn c.net_port_laws.ensures (load_case_seen c.in-Ok.case) c.in_ok-files.files.items
    (subst (λ (load : LoadCase). 1 ≤ length load.policies) (sym c.in-Ok.ensures.case) (omega arith))
    c.in-Ok.ensures.policies c.in-Ok.ensures.playable c.in_ok-files.ensures

pub begin_world_of_inputs-requires-clause-first : goal.begin_world_of_inputs-requires-clause-first
begin_world_of_inputs-requires-clause-first c =
    (drawn (goal.at.begin_world_of_inputs-requires-clause-first c).In_ok-files).first

pub begin_world_of_inputs-requires-clause-sound : goal.begin_world_of_inputs-requires-clause-sound
begin_world_of_inputs-requires-clause-sound c =
    (drawn (goal.at.begin_world_of_inputs-requires-clause-sound c).In_ok-files).sound

pub begin_world_of_inputs-requires-clause-ports : goal.begin_world_of_inputs-requires-clause-ports
begin_world_of_inputs-requires-clause-ports c =
    (drawn (goal.at.begin_world_of_inputs-requires-clause-ports c).In_ok-files).ports
