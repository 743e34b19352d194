-- The outcome of a replay that proposes a placement, by its status.
use Rattle.std.specs.Prelude.{◌≡◌, ◌≢◌, ◌≤◌, ◌⊎◌, Bool, Err, IsErrOf, IsOk, IsTrue, List, None, OnOk, Option, Result, Some, ℕ, ⊤}
use Rattle.update_machine.specs.Exports.{Item, Net, Row, Setting, journal_current_mark, journal_plan_at, machine_policy_at}
use Rattle.partition.specs.Plan.{HostedPolicyPartition}
use Rattle.rebalance.specs.Proposals.{RebalanceProposesFor}
use Rattle.shelf.specs.Exports.{SinkGainedPart, SinkFaultsRose, SinkState}
use Rattle.shelf.specs.declared.output.SinkError.{SinkError}
use Rattle.shelf.specs.declared.output.SinkError.TheVariants.{Failed, NoMemory}
use Rattle.command_inputs.specs.Exports.{Inputs}
use Rattle.difane_cli.specs.Writes.{ProgramUnplayed, ProgramOutputWrote}
use Rattle.command_inputs.specs.declared.status.Status.{Status}
use Rattle.command_inputs.specs.declared.status.Status.TheVariants as status

-- ---- what is written

-- there is a proposal for the plan that is in force after the journal, and this is true of its text
abbrev pub ProgramProposes : Setting → List Item → (List ℕ → Type 0) → Type 0
ProgramProposes setting journal IsWritten =
    RebalanceProposesFor (machine_policy_at setting journal (journal_current_mark journal))
    (journal_plan_at setting journal (journal_current_mark journal)) setting.net journal IsWritten

-- the output after writing a proposal: it gained all of its text, or a part of it; or memory ran
-- out before the output was touched
pub record IsAfterProgramProposal (rows : List Row) (plan : List HostedPolicyPartition) (net : Net)
    (journal : List Item) (takes_memory : Bool) (before now : SinkState)
    (result : Result (⊤) SinkError) : Type 0 where
  pub whole : OnOk result (RebalanceProposesFor rows plan net journal (λ text. ProgramOutputWrote text before now))
  pub part : IsErrOf result Failed
      → RebalanceProposesFor rows plan net journal (λ text. SinkGainedPart before.bytes text now.bytes)
  pub some : IsErrOf result NoMemory → (now ≡ before)
      ⊎ (IsTrue takes_memory
      × RebalanceProposesFor rows plan net journal (λ text. SinkGainedPart before.bytes text now.bytes))
  pub calm : result ≢ Err Failed → now.faults ≡ before.faults
  pub failed : IsErrOf result Failed → SinkFaultsRose before.faults now.faults
  pub faults : before.faults ≤ now.faults

-- the output after a play that may propose a placement: if it stopped full, nothing was written
abbrev pub IsAfterProgramProposing : (full : Option ℕ) → List Row → List HostedPolicyPartition → Net → List Item
    → (takes_memory : Bool) → (before now : SinkState) → Result (⊤) SinkError → Type 0
IsAfterProgramProposing None rows plan net journal takes_memory before now result =
    IsAfterProgramProposal rows plan net journal takes_memory before now result
IsAfterProgramProposing (Some row) rows plan net journal takes_memory before now result =
    IsOk result × (now ≡ before)

-- ---- by the status

-- a play to its end, after which a placement is proposed
pub record ProgramRebalances (IsCommandAnswer : Inputs → List Item → Option ℕ → Type 0) (journal : List Item)
    (IsWritten : List ℕ → Type 0) : Type 0 where
  pub inputs : Inputs
  pub played : IsCommandAnswer inputs journal None
  pub proposes : ProgramProposes inputs.setting journal IsWritten

-- a play of which nothing was written
pub record ProgramPlayedUnwritten (IsCommandAnswer : Inputs → List Item → Option ℕ → Type 0) (full : Option ℕ)
    (journal : List Item) (before now : SinkState) : Type 0 where
  pub inputs : Inputs
  pub played : IsCommandAnswer inputs journal full
  pub untouched : now ≡ before

-- the journal and the output that each status ensures, where `IsCommandAnswer` says which journals
-- answer which inputs of the command, to their end or to a row at which they are full
abbrev pub ProgramProposalOutcome : (IsCommandAnswer : Inputs → List Item → Option ℕ → Type 0)
    → (takes_memory : Bool) → Status → List Item → (before now : SinkState) → Type 0
ProgramProposalOutcome IsCommandAnswer takes_memory status.Ok journal before now =
    ProgramRebalances IsCommandAnswer journal (λ text. ProgramOutputWrote text before now)
ProgramProposalOutcome IsCommandAnswer takes_memory (status.Full row) journal before now =
    ProgramPlayedUnwritten IsCommandAnswer (Some row) journal before now
ProgramProposalOutcome IsCommandAnswer takes_memory status.WriteFault journal before now =
    ProgramRebalances IsCommandAnswer journal (λ text. SinkGainedPart before.bytes text now.bytes)
ProgramProposalOutcome IsCommandAnswer takes_memory status.NoMemory journal before now =
    ProgramUnplayed journal before now ⊎ ProgramPlayedUnwritten IsCommandAnswer None journal before now
    ⊎ (IsTrue takes_memory
    × ProgramRebalances IsCommandAnswer journal (λ text. SinkGainedPart before.bytes text now.bytes))
ProgramProposalOutcome IsCommandAnswer takes_memory (status.No line) journal before now = ⊥
ProgramProposalOutcome IsCommandAnswer takes_memory _ journal before now = ProgramUnplayed journal before now
