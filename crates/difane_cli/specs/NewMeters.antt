-- The meters with which the program begins: a new one at each port.
use Rattle.std.specs.Prelude.{[], ◌∷◌, Bool, List, bytes_eq, codes, false, length, map, nat_le, true, ℕ}
use Rattle.base.specs.Exports.{range_with_len}
use Rattle.flow_export.specs.Flows.{flows, exported_flow_headers_of}
use Rattle.meters.specs.Exports.{SeenMeter}

-- the first argument is the word `flows`
abbrev pub program_call_asks_flows : List (List ℕ) → Bool
program_call_asks_flows [] = false
program_call_asks_flows (word ∷ more) = bytes_eq word (codes "flows")

-- with this many different headers a flow meter of the program is complete
abbrev pub program_most_headers : ℕ
program_most_headers = 4096

-- an empty meter of this port: one that counts flows, or one that always stays, without records
abbrev pub new_program_meter : (counts_flows : Bool) → ℕ → SeenMeter
new_program_meter true port = record {
  port = port;
  held = [];
  is_ended = λ held. nat_le program_most_headers (length (exported_flow_headers_of held));
  recorded = flows port;
}
new_program_meter false port = record {
  port = port;
  held = [];
  is_ended = λ held. false;
  recorded = λ held. [];
}

-- a new meter at each port that a network may have
abbrev pub new_program_meters : (counts_flows : Bool) → List SeenMeter
new_program_meters counts_flows = map (new_program_meter counts_flows) (range_with_len 0 64)
