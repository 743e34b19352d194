-- Faults that are planned beforehand, and counts of many calls.
use Rattle.std.specs.Prelude.{if◌then◌else◌, Bool, Contains, List, suc, zero, ℕ}
use Rattle.shelf.specs.Sink.{next_sink_fault_count}

-- the numbers of the calls that are to fail, counted from 1; how many calls and how many faults
-- there were; both counts stop at their greatest value
pub record ShelfCallScript : Type 0 where
  pub failing : List ℕ
  pub calls : ℕ
  pub faults : ℕ

-- nothing was called yet
abbrev pub shelf_script_of : List ℕ → ShelfCallScript
shelf_script_of failing = record { failing = failing; calls = 0; faults = 0 }

-- the number of the next call is one of those that are to fail
abbrev pub ShelfScriptFailsNext : ShelfCallScript → Type 0
ShelfScriptFailsNext script = Contains script.failing (next_sink_fault_count script.calls)

-- after one more call, which was a fault or not
abbrev pub shelf_script_after_call : ShelfCallScript → Bool → ShelfCallScript
shelf_script_after_call script fault = record {
  failing = script.failing;
  calls = next_sink_fault_count script.calls;
  faults = if fault then next_sink_fault_count script.faults else script.faults;
}

-- this many more, or the greatest value
abbrev pub shelf_faults_counted_up : ℕ → ℕ → ℕ
shelf_faults_counted_up zero n = n
shelf_faults_counted_up (suc many) n = next_sink_fault_count (shelf_faults_counted_up many n)
