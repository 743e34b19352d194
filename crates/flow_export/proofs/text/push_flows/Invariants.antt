use Rattle.std.proofs.Common.{◌++◌, ◌≡◌, string_bytes, take}
use Rattle.flow_export.specs.Lines.{exported_flow_lines}
use Rattle.flow_export.proofs.text.push_flows.Given as goal

abbrev pub invariant-loop-record : goal.invariant-loop-record
invariant-loop-record l =
    string_bytes l.text ≡ string_bytes l.fn.text ++ exported_flow_lines (take l.record-index l.records)
