use Rattle.std.proofs.Common.{◌++◌, ◌≡◌}
use Rattle.world_log.proofs.LogRelinking.{held_below}
use Rattle.world_log.proofs.usable_links.send_world_log_held.Given as goal

-- the adverts of the origins so far
abbrev pub invariant-loop-origin : goal.invariant-loop-origin
invariant-loop-origin l =
    l.messages.items ≡ l.initial.messages.items ++ held_below l.switch l.other l.origin
