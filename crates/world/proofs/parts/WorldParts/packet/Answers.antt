use Rattle.std.proofs.Common.{arith, refl}
use Rattle.refinement.proofs.RefinedHopPieces.{can_look_up}
use Rattle.refinement.proofs.RefinedIncomingTie.{come_fits}
use Rattle.world.proofs.WorldPacketParts.{packet_goes}
use Rattle.world.proofs.WorldSwitchParts.{place_in}
use Rattle.world.proofs.parts.WorldParts.packet.Goals as goal

pub overflow_add-self : goal.overflow_add-self
overflow_add-self c = let self = c.args.self.now in
    omega (arith, come_fits c.requires.begins.ready.refines c.requires.begins.ready.few)

pub index_mut-requires : goal.index_mut-requires
index_mut-requires c = place_in c.args.switch c.requires c.requires.begins.ready.may.0

pub enter-requires : goal.enter-requires
enter-requires c = let self = c.args.self.now in record {
  stamped = can_look_up c.requires.begins.ready.refines c.args.switch c.index_mut.result.now
      c.requires.begins.ready.may.0 c.index_mut.ensures.value;
  few = omega (arith, c.requires.begins.ready.room);
}

pub returns : goal.returns
returns c = λ before row begins.
    packet_goes begins c.index_mut.result.now c.index_mut.ensures.value c.enter.result
    c.enter.new.self _ c.enter.new.switch refl c.enter.ensures.counted c.enter.ensures.log
