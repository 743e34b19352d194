use Rattle.std.proofs.Common.{◌<◌, ◌≡◌, ◌≤◌, get_or, length, ℕ}
use Rattle.switch_core.specs.Exports.{SwitchValue}
use Rattle.world_log.specs.Exports.{log_switch_relinked}
use Rattle.world_log.proofs.LogRelinking.{all_below}
use Rattle.world_log.proofs.usable_links.world_log_relink.Given as goal

-- the switches so far are relinked, and tell that
abbrev pub invariant-loop-s : goal.invariant-loop-s
invariant-loop-s l = (length l.switches.items ≡ length l.initial.switches.items)
    × ((s : ℕ) (d : SwitchValue) → s < l.s → get_or l.switches.items s d
    ≡ log_switch_relinked (get_or l.had s 0) (get_or l.now s 0) (get_or l.initial.switches.items s d))
    × ((s : ℕ) (d : SwitchValue) → l.s ≤ s → get_or l.switches.items s d
    ≡ get_or l.initial.switches.items s d) × (l.messages.items
    ≡ all_below (length l.initial.switches.items) l.had l.now l.initial.switches.items l.s)
