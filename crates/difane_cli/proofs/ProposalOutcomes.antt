-- What a replay that proposes a placement comes to.
use Rattle.std.proofs.Common.{[], ◌≡◌, ◌⊎◌, Bool, Err, IsTrue, List, None, Ok, Option, Result, Some, ap, arith, inl, inr, refl, subst, ℕ}
use Rattle.base.proofs.Exports.{⊤}
use Rattle.controller.specs.Exports.{ControllerPlanValue}
use Rattle.update_machine.specs.Exports.{Item, Net, Row, Setting, journal_current_mark, journal_plan_at}
use Rattle.partition.specs.Plan.{HostedPolicyPartition}
use Rattle.rebalance.specs.Proposals.{RebalanceProposesFor}
use Rattle.replay.specs.InForce.{IsReplayPlanInForce}
use Rattle.shelf.specs.Exports.{ShelfFiles, SinkGainedPart, IsSinkAfterWrite, SinkState}
use Rattle.shelf.specs.declared.output.SinkError.{SinkError}
use Rattle.shelf.specs.declared.output.SinkError.TheVariants as sink
use Rattle.command_line.specs.Exports.{ReplayArguments}
use Rattle.command_line.specs.Commands as asked
use Rattle.difane_cli.specs.Exports.{ProgramStatusEndsWork, IsAfterProgramProposal, IsAfterProgramProposing, IsProgramAnswer, ProgramProposalOutcome, ProgramProposes, ProgramOutputWrote}
use Rattle.command_inputs.specs.Exports.{Inputs, command_status_after}
use Rattle.command_inputs.specs.declared.status.Status.TheVariants as status
use Rattle.difane_cli.proofs.ProgramStatus.{after_work, by_failed, by_memory, of_failed}

-- ---- what is written

module _ (rows : List Row) (plan : List HostedPolicyPartition) (net : Net) (journal : List Item) where
  pub no_proposal : (takes_memory : Bool) (before : SinkState)
      → IsAfterProgramProposal rows plan net journal takes_memory before before (Err sink.NoMemory)
  no_proposal takes_memory before = record {
    whole = tt;
    part = λ is. absurd (cc is);
    some = λ is. inl refl;
    calm = λ not. refl;
    failed = λ is. absurd (cc is);
    faults = omega arith;
  }

  proposes : (text : List ℕ) (IsWritten : List ℕ → Type 0)
      → RebalanceProposesFor rows plan net journal (λ whole. text ≡ whole) → IsWritten text
      → RebalanceProposesFor rows plan net journal IsWritten
  proposes text IsWritten is written = record {
    placement = is.placement;
    proposed = is.proposed;
    written = subst IsWritten is.written written;
  }

  pub wrote_proposal : (text : List ℕ) (takes_memory : Bool) (before now : SinkState)
      (result : Result (⊤) SinkError) → RebalanceProposesFor rows plan net journal (λ whole. text ≡ whole)
      → IsSinkAfterWrite text takes_memory before now result → (text ≡ [] → now ≡ before)
      → IsAfterProgramProposal rows plan net journal takes_memory before now result
  wrote_proposal text takes_memory before now (Ok done) is after untouched = record {
    whole = proposes text (λ text. ProgramOutputWrote text before now) is
        (record { whole = after.whole; untouched = untouched });
    part = λ same. absurd (cc same);
    some = λ same. absurd (cc same);
    calm = after.calm;
    failed = after.failed;
    faults = after.faults;
  }
  wrote_proposal text takes_memory before now (Err error) is after untouched =
      let part : RebalanceProposesFor rows plan net journal
      (λ text. SinkGainedPart before.bytes text now.bytes) = proposes text _ is after.part in record {
        whole = tt;
        part = λ same. part;
        some = λ same. inr (after.no_memory same, part);
        calm = after.calm;
        failed = after.failed;
        faults = after.faults;
      }

  -- ---- what the status says of it

  -- where memory ran out
  out_of_room : {A B C : Type 0} → A ⊎ (B × C) → B ⊎ A
  out_of_room (inl same) = inr same
  out_of_room (inr (takes, rest)) = inl takes

  pub out_of_proposing : (full : Option ℕ) (takes_memory : Bool) (before now : SinkState)
      (result : Result (⊤) SinkError)
      → IsAfterProgramProposing full rows plan net journal takes_memory before now result
      → command_status_after result full ≡ status.NoMemory → IsTrue takes_memory ⊎ (now ≡ before)
  out_of_proposing None takes_memory before now result after is =
      out_of_room (after.some (by_memory result None is))
  out_of_proposing (Some row) takes_memory before now result after is = inr after.1

  pub proposing_ends : (full : Option ℕ) (takes_memory : Bool) (before now : SinkState)
      (result : Result (⊤) SinkError)
      → IsAfterProgramProposing full rows plan net journal takes_memory before now result
      → ProgramStatusEndsWork (command_status_after result full) before now
  proposing_ends None takes_memory before now result after = record {
    worked = after_work result None;
    failed = λ is. after.failed (by_failed result None is);
    calm = λ not. after.calm (λ is. not (of_failed result None is));
    faults = after.faults;
  }
  proposing_ends (Some row) takes_memory before now (Err error) after = absurd (cc after.0)
  proposing_ends (Some row) takes_memory before now (Ok done) after = record {
    worked = tt;
    failed = λ is. absurd (cc is);
    calm = λ not. ap (λ (s : SinkState). s.faults) after.1;
    faults = omega (arith, ap (λ (s : SinkState). s.faults) after.1);
  }

-- ---- what comes of the play

in_force : (setting : Setting) (journal : List Item) (plan : ControllerPlanValue)
    (IsWritten : List ℕ → Type 0) → IsReplayPlanInForce setting journal plan
    → RebalanceProposesFor plan.policy plan.hosted setting.net journal IsWritten
    → ProgramProposes setting journal IsWritten
in_force setting journal plan IsWritten is proposes = subst (λ rows. RebalanceProposesFor rows
    (journal_plan_at setting journal (journal_current_mark journal)) setting.net journal IsWritten) is.policy
    (subst (λ hosted. RebalanceProposesFor plan.policy hosted setting.net journal IsWritten) is.hosted
    proposes)

pub whole_told : (command : ReplayArguments) (files : Option ShelfFiles) (inputs : Inputs)
    (journal : List Item) (full : Option ℕ) (plan : ControllerPlanValue) (takes_memory : Bool)
    (before now : SinkState) (written : Result (⊤) SinkError)
    → IsProgramAnswer (asked.Replay command) files inputs journal full
    → IsReplayPlanInForce inputs.setting journal plan → IsAfterProgramProposing full plan.policy plan.hosted
    inputs.setting.net journal takes_memory before now written
    → ProgramProposalOutcome (IsProgramAnswer (asked.Replay command) files) takes_memory
    (command_status_after written full) journal before now
whole_told command files inputs journal (Some row) plan takes_memory before now (Ok done) answer is
    after = record { inputs = inputs; played = answer; untouched = after.1 }
whole_told command files inputs journal (Some row) plan takes_memory before now (Err error) answer
    is after = absurd (cc after.0)
whole_told command files inputs journal None plan takes_memory before now (Ok done) answer is
    after = record {
      inputs = inputs;
      played = answer;
      proposes = in_force inputs.setting journal plan (λ text. ProgramOutputWrote text before now) is after.whole;
    }
whole_told command files inputs journal None plan takes_memory before now (Err sink.Failed) answer
    is after = record {
      inputs = inputs;
      played = answer;
      proposes = in_force inputs.setting journal plan
          (λ text. SinkGainedPart before.bytes text now.bytes) is (after.part refl);
    }
whole_told command files inputs journal None plan takes_memory before now (Err sink.NoMemory) answer
    is after = by_some (after.some refl)
  where
    by_some : (now ≡ before) ⊎ (IsTrue takes_memory × RebalanceProposesFor plan.policy plan.hosted
        inputs.setting.net journal (λ text. SinkGainedPart before.bytes text now.bytes))
        → ProgramProposalOutcome (IsProgramAnswer (asked.Replay command) files) takes_memory status.NoMemory
        journal before now
    by_some (inl same) = inr (inl (record { inputs = inputs; played = answer; untouched = same }))
    by_some (inr (takes, part)) = inr (inr (
      takes,
      record {
        inputs = inputs;
        played = answer;
        proposes = in_force inputs.setting journal plan
            (λ text. SinkGainedPart before.bytes text now.bytes) is part;
      },
    ))
