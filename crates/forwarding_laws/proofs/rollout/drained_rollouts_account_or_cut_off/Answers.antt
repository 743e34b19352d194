use Rattle.forwarding_laws.proofs.RolloutDrains.{accounted_or_cut_off}
use Rattle.forwarding_laws.proofs.rollout.drained_rollouts_account_or_cut_off.Goals as goal

pub returns : goal.returns
returns c = accounted_or_cut_off c.machine_answers_are_numbered.ensures c.packet_items_have_causes.ensures
    c.ends_have_causes.ensures c.rollouts_drop_nothing.ensures
