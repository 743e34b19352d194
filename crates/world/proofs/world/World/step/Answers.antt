use Rattle.std.proofs.Common.{◌∙◌, ◌≡◌, ◌≤◌, List, ap, arith, length, subst, sym}
use Rattle.update_machine.specs.Exports.{MachineJournalHasRoom, IsMachineJournalFull, Item, journal_next_packet}
use Rattle.steps.specs.Exports.{IsStep}
use Rattle.world.specs.Exports.{WorldPartsKeepNet, WorldValue, world_setting_at, world_setting_in, world_value}
use Rattle.world.proofs.WorldJournalRoom.{has_room, is_full, not_full}
use Rattle.world.proofs.WorldSoFar.{part_so_far, so_far_in, step_so_far}
use Rattle.world.specs.declared.parts.WorldParts.{WorldParts}
use Rattle.packet_laws.specs.Exports.{PacketLawsHoldSoFar}
use Rattle.world.proofs.world.World.step.Goals as goal
use Rattle.world.proofs.world.World.step.Goals.{After-play}

-- the network and the files stay
setting_kept : (old new : WorldParts) → WorldPartsKeepNet old new → world_setting_in new ≡ world_setting_in old
setting_kept old new keeps = cc (keeps.same_net, keeps.same_files)

pub returns-in_err-play-clause-setting : goal.returns-in_err-play-clause-setting
returns-in_err-play-clause-setting c =
    setting_kept c.self.inside.parts c.play.new.self c.in_err-play.ensures.net
    ∙ ap world_setting_at c.self.view_is

pub returns-clause-setting : goal.returns-clause-setting
returns-clause-setting c = setting_kept c.self.inside.parts c.play.new.self c.in_ok-play.ensures.net
    ∙ ap world_setting_at c.self.view_is

pub play-requires : goal.play-requires
play-requires c =
    let room = subst (λ (w : WorldValue). MachineJournalHasRoom w.journal) c.self.view_is
    (has_room (c.self.invariant.refines c.if-self.false)
    (omega (arith, c.sent.ensures, c.if-sent-ge-FULL_AT.false))) in record {
      sound = c.self.invariant.sound;
      refines = c.self.invariant.refines c.if-self.false;
      newest = c.self.invariant.newest c.if-self.false;
      may = subst (λ (w : WorldValue). IsStep w.net (length w.files) c.args.step.now)
          (sym c.self.view_is) (c.requires.may room);
      few = subst (λ (w : WorldValue). journal_next_packet w.journal ≤ 4_000_000_000) (sym c.self.view_is)
          c.requires.few;
      room = omega (arith, c.sent.ensures, c.if-sent-ge-FULL_AT.false);
    }

pub returns-then-sent-ge-FULL_AT-clause-full : goal.returns-then-sent-ge-FULL_AT-clause-full
returns-then-sent-ge-FULL_AT-clause-full c = λ is. subst (λ (w : WorldValue). IsMachineJournalFull w.journal)
    c.self.view_is (is_full (c.self.invariant.refines c.if-self.false)
    (omega (arith, c.sent.ensures, c.if-sent-ge-FULL_AT.true)))

pub returns-in_err-play-clause-full : goal.returns-in_err-play-clause-full
returns-in_err-play-clause-full c = λ is.
    absurd (not_full c.from_residual.result c.from_residual.ensures.1 is)

-- there is room for the step, so it may be played
room : (c : After-play) → MachineJournalHasRoom c.args.self.now.journal
room c = subst (λ (w : WorldValue). MachineJournalHasRoom w.journal) c.self.view_is
    (has_room (c.self.invariant.refines c.if-self.false)
    (omega (arith, c.sent.ensures, c.if-sent-ge-FULL_AT.false)))

may : (c : After-play) → let old = world_value c.self.inside.parts c.self.inside.is_spent in
    IsStep old.net (length old.files) c.args.step.now
may c = subst (λ (w : WorldValue). IsStep w.net (length w.files) c.args.step.now)
    (sym c.self.view_is) (c.requires.may (room c))

pub returns-in_err-play-clause-refused : goal.returns-in_err-play-clause-refused
returns-in_err-play-clause-refused c = λ able full. absurd (omega (arith, room))

pub returns-clause-room : goal.returns-clause-room
returns-clause-room c = room (goal.at.returns-clause-room c).After-play

pub returns-clause-refused : goal.returns-clause-refused
returns-clause-refused c = λ able full. absurd (omega (arith, room))

pub returns-then-sent-ge-FULL_AT-clause-so_far : goal.returns-then-sent-ge-FULL_AT-clause-so_far
returns-then-sent-ge-FULL_AT-clause-so_far c = λ able. subst
    (λ (w : WorldValue). PacketLawsHoldSoFar (world_setting_at w) w.journal) c.self.view_is
    (so_far_in c.packet_journals_hold_so_far.ensures (world_value c.self.inside.parts
    c.self.inside.is_spent) (c.self.invariant.refines c.if-self.false))

pub returns-in_err-play-clause-so_far : goal.returns-in_err-play-clause-so_far
returns-in_err-play-clause-so_far c = λ able. let after : List Item = c.play.new.self.log.journal in
    subst (λ (w : WorldValue). PacketLawsHoldSoFar (world_setting_at w) after) c.self.view_is
    (part_so_far c.packet_journals_hold_so_far.ensures
    (world_value c.self.inside.parts c.self.inside.is_spent)
    c.args.row c.args.step.now after (c.self.invariant.refines c.if-self.false)
    (may (goal.at.returns-in_err-play-clause-so_far c).After-play) c.in_err-play.ensures.part)

pub returns-clause-so_far : goal.returns-clause-so_far
returns-clause-so_far c = λ able. let after : List Item = c.play.new.self.log.journal in
    subst (λ (w : WorldValue). PacketLawsHoldSoFar (world_setting_at w) after) c.self.view_is
    (step_so_far c.packet_journals_hold_so_far.ensures
    (world_value c.self.inside.parts c.self.inside.is_spent)
    c.args.row c.args.step.now after (c.self.invariant.refines c.if-self.false)
    (may (goal.at.returns-clause-so_far c).After-play) c.in_ok-play.ensures.written)
