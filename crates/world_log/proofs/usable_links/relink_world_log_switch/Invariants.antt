use Rattle.std.proofs.Common.{◌++◌, ◌≡◌}
use Rattle.world_log.proofs.LogRelinking.{told_below}
use Rattle.world_log.proofs.usable_links.relink_world_log_switch.Given as goal

-- what the neighbours so far are told
abbrev pub invariant-loop-other : goal.invariant-loop-other
invariant-loop-other l = l.messages.items
    ≡ l.initial.messages.items ++ told_below l.switch l.own l.had l.near l.other
