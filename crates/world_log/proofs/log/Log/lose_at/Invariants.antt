use Rattle.std.proofs.Common.{◌-◌, ◌≡◌, length}
use Rattle.world_log.specs.Exports.{AreLoggedLossesBelow}
use Rattle.world_log.proofs.log.Log.lose_at.Given as goal

-- those so far are lost
abbrev pub invariant-loop-packet : goal.invariant-loop-packet
invariant-loop-packet l = AreLoggedLossesBelow l.initial.self.travelling l.switch l.from
    l.initial.self.journal l.self.journal l.self.travelling × (l.self.bag ≡ l.initial.self.bag)

abbrev pub decreases-loop-packet : goal.decreases-loop-packet
decreases-loop-packet l = length l.initial.self.travelling - l.from
