-- A packet on its way: its switch can be asked, and answers as the journal's definitions say.
use Rattle.std.proofs.Common.{◌++◌, ◌≡◌, arith, drop, length, refl, subst, take}
use Rattle.base.proofs.Exports.{take-append_seam}
use Rattle.tunnel.specs.Exports.{here}
use Rattle.travelling.specs.Travelling.{flight}
use Rattle.refinement.proofs.RefinedHopPieces.{within_here}
use Rattle.world.proofs.WorldPacketParts.{hop_goes, may_go_on}
use Rattle.world.proofs.parts.WorldParts.hop.Goals as goal

pub hop-requires-clause-there : goal.hop-requires-clause-there
hop-requires-clause-there c = λ t its. rw c.deref_mut.ensures.value
    (within_here c.requires.begins.ready.refines c.args.packet t (here t.tunnel) its refl)

pub hop-requires-clause-may : goal.hop-requires-clause-may
hop-requires-clause-may c = rw c.deref_mut.ensures.value (may_go_on c.requires.begins)

pub returns : goal.returns
returns c = λ before row begins. let held = c.args.self.now.switches in
    let now = c.hop.new.switches in
    let many : length now ≡ held.len = omega (arith, c.hop.auto.switches, c.deref_mut.ensures.len) in
    hop_goes begins c.hop.result c.hop.new.self _ now
    (subst (λ k. take k (now ++ drop (length now) held.items) ≡ now) many
    (take-append_seam now (drop (length now) held.items)))
    (flight c.args.self.now.log.travelling c.args.packet) refl
    (rw c.deref_mut.ensures.value at c.hop.ensures)
