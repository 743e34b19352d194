use Rattle.std.proofs.Common.{◌++◌, ◌≡◌, string_bytes, take}
use Rattle.net_file.specs.Exports.{net_switch_names_text}
use Rattle.net_file.proofs.net.Net.push_names.Given as goal

abbrev pub invariant-loop-s : goal.invariant-loop-s
invariant-loop-s l = string_bytes l.text
    ≡ string_bytes l.initial.text ++ net_switch_names_text l.self (take l.s-index l.switches)
