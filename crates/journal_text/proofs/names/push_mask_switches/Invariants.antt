use Rattle.std.proofs.Common.{◌<◌, ◌^◌, ◌≡◌, filter}
use Rattle.base.specs.Exports.{has, switches}
use Rattle.net_file.specs.Exports.{net_switch_names_text}
use Rattle.lines.specs.Pushes.{line_with}
use Rattle.journal_text.proofs.names.push_mask_switches.Given as goal

abbrev pub invariant-loop-rest : goal.invariant-loop-rest
invariant-loop-rest l = record {
  fits : l.rest < 2 ^ 64;
  text : line_with l.line (net_switch_names_text l.net (filter (has l.rest) switches))
      ≡ line_with l.initial.line (net_switch_names_text l.net (filter (has l.mask) switches));
}

abbrev pub decreases-loop-rest : goal.decreases-loop-rest
decreases-loop-rest l = l.rest
