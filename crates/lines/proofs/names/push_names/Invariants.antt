use Rattle.std.proofs.Common.{◌≡◌, take}
use Rattle.net_file.specs.Exports.{net_switch_names_text}
use Rattle.lines.specs.Pushes.{line_with}
use Rattle.lines.proofs.names.push_names.Given as goal

abbrev pub invariant-loop-s : goal.invariant-loop-s
invariant-loop-s l = l.line ≡ line_with l.initial.line
    (net_switch_names_text l.net (take l.s-index l.switches))
