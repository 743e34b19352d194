-- The lines of flow records.
use Rattle.std.specs.Prelude.{◌++◌, List, codes, decimal, flat_map, ℕ}
use Rattle.five_tuple.specs.Exports.{header_fields_text}
use Rattle.meters.specs.declared.flows.FlowRecord.{FlowRecord}

-- the line of a record, with its line feed
abbrev pub exported_flow_line : FlowRecord → List ℕ
exported_flow_line flow = codes "flow port " ++ decimal flow.port ++ codes " "
    ++ header_fields_text flow.header.fields ++ codes " packets " ++ decimal flow.packets ++ codes "\n"

abbrev pub exported_flow_lines : List FlowRecord → List ℕ
exported_flow_lines records = flat_map exported_flow_line records
