-- First tier. A meter: port, leavings, and for every list whether it is complete, and its records.
use Rattle.std.specs.Prelude.{Bool, List, ℕ}
use Rattle.policy_rules.specs.declared.packet.Leaving.{Leaving}
use Rattle.meters.specs.declared.flows.FlowRecord.{FlowRecord}

pub record SeenMeter : Type 0 where
  pub port : ℕ
  pub held : List Leaving
  pub is_ended : List Leaving → Bool
  pub recorded : List Leaving → List FlowRecord
