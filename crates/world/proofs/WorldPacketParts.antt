-- The steps of packets over the parts of a world.
use Rattle.std.proofs.Common.{◌++◌, ◌+◌, ◌∙◌, ◌∷◌, ◌≡◌, Global, List, None, Option, Result, Some, Vec, ap, arith, get_or, is_some, length, refl, set, slice_get, slice_index, subst, sym, ℕ}
use Rattle.base.proofs.Exports.{both_ok, get_or_from_slice_get, on_ok_weaker, three_ok}
use Rattle.update_machine.specs.Exports.{Header, Hop, Item, Packet as PacketStep}
use Rattle.journal.specs.declared.item.Item.TheVariants as item
use Rattle.switch_core.specs.Exports.{SwitchAnswer, SwitchValue, switch_call_counted}
use Rattle.tunnel.specs.Exports.{here}
use Rattle.world_log.specs.Exports.{Hops, LogAfter, MayLoggedPacketGoOn, log_coming_in, log_entered_flight, log_entered_items, log_entered_posts, entry, log_hop_written}
use Rattle.world.specs.Exports.{WorldBeginsStep, WorldStepGoes, world_setting_in}
use Rattle.refinement.specs.Exports.{RefineJournal}
use Rattle.travelling.specs.Travelling.{TravellingFlight, TravellingStanding, flight}
use Rattle.world_log.specs.declared.log.Log.{Log}
use Rattle.world.specs.declared.parts.WorldParts.{WorldParts}
use Rattle.refinement.proofs.RefinedHopPieces.{CanAsk, can_ask, within_here}
use Rattle.refinement.proofs.RefinedHops.{hop_left, hop_piece_of, hop_refines}
use Rattle.refinement.proofs.RefinedIncomingTie.{come_piece, come_refines}
use Rattle.refinement.proofs.RefinedNetworkSwitches.{switch_is, switch_there}
use Rattle.world.proofs.WorldStepClauses.{files_stay, goes_one, goes_quiet, none_in, plane_stays, with_posts}

-- ---- a packet that enters

module _ {parts : WorldParts} {before : List Item} {row s : ℕ} {header : Header}
    (begins : WorldBeginsStep before row (PacketStep s header) parts) (own : SwitchValue)
    (its : own ≡ get_or parts.switches.items s own) where
  abbrev what : Option SwitchAnswer
  what = entry own (slice_index parts.near s) parts.ports (parts.packets + 1) header

  abbrev at : TravellingStanding
  at = log_coming_in (parts.packets + 1) header own.number

  pub packet_goes : {T E : Type 0} (r : Result T E) (log : Log) (switches : Vec SwitchValue Global)
      (changed : SwitchValue) → switches.items ≡ set parts.switches.items s changed
      → changed ≡ switch_call_counted own → LogAfter r (log_entered_items (length parts.log.bag + 1) at what)
      (log_entered_posts at what) (parts.packets + 1) (log_entered_flight what) parts.log log
      → WorldStepGoes r before row (PacketStep s header) parts (record parts {
        log = log;
        switches = switches;
        packets = parts.packets + 1;
      })
  packet_goes r log switches changed set_is changed_is entered = let ready = begins.ready in
      goes_quiet begins (files_stay refl refl) _ (plane_stays refl refl refl)
      (come_piece ready.refines row s header parts.ports own ready.may ready.sound.owners its)
      (on_ok_weaker r (λ done. refl) entered.written) entered.written entered.part
      (both_ok r (λ posted left. subst (λ bag. RefineJournal (world_setting_in parts)
      (before ++ item.Row row (PacketStep s header)
      ∷ log_entered_items (length parts.log.bag + 1) at what) (with_posts parts (record parts {
        log = log;
        switches = switches;
        packets = parts.packets + 1;
      }) bag)) (sym posted) (rw set_is (come_refines ready.refines row s header parts.ports own
      ready.may ready.sound.owners its log.travelling changed
      (switch_there ready.refines s ready.may.0) (switch_is ready.refines s own ready.may.0 its)
      changed_is left))) entered.posted entered.travels)

-- ---- a packet that moves on

-- the switch that is found there
own_of : (switches : List SwitchValue) (s : ℕ) (switch : SwitchValue)
    → slice_get switches s ≡ Some switch → switch ≡ get_or switches s switch
own_of switches s switch found = sym (get_or_from_slice_get switches s switch switch found)

module _ {parts : WorldParts} {before : List Item} {row i : ℕ}
    (begins : WorldBeginsStep before row (Hop i) parts) where
  -- its switch can be asked
  can : (t : TravellingFlight) (switch : SwitchValue) → flight parts.log.travelling i ≡ Some t
      → slice_get parts.switches.items (here t.tunnel) ≡ Some switch → CanAsk (world_setting_in parts)
      before i t (here t.tunnel) (slice_index parts.near (here t.tunnel)) switch parts.ports
  can t switch its found = can_ask begins.ready.refines i t (here t.tunnel) switch parts.ports
      begins.ready.sound.owners its refl (own_of parts.switches.items (here t.tunnel) switch found)

  pub may_go_on : (t : TravellingFlight) (switch : SwitchValue) → flight parts.log.travelling i ≡ Some t
      → slice_get parts.switches.items (here t.tunnel) ≡ Some switch
      → MayLoggedPacketGoOn i switch (slice_index parts.near (here t.tunnel)) t
  may_go_on t switch its found = let can = can t switch its found in record {
    known = ap (λ (u : TravellingFlight). u.tunnel.packet) can.standing.is;
    here = can.stands;
    serving = can.serving;
    stamped = can.stamped;
    authority = can.authority;
    ingress = omega (
      arith,
      ap (λ (u : TravellingFlight). u.tunnel.ingress) can.standing.is,
      can.standing.stands.at_first,
      begins.ready.sound.sound.few_switches,
    );
  }

  module _ {T E : Type 0} (r : Result T E) (log : Log) (switches : Vec SwitchValue Global)
      (after : List SwitchValue) (same : switches.items ≡ after) where
    -- and says what the journal's definitions say
    pub hop_goes : (o : Option TravellingFlight) → flight parts.log.travelling i ≡ o
        → Hops r i parts.near parts.ports parts.log parts.switches.items log after o
        → WorldStepGoes r before row (Hop i) parts (record parts { log = log; switches = switches })
    hop_goes None none nothing =
        let left = hop_left begins.ready.refines row i begins.ready.may (ap is_some none) in
        goes_one begins (files_stay refl refl) item.Nothing parts.log.bag
        (plane_stays refl refl refl) (ap (λ (l : Log). l.bag) nothing.rest) (none_in _)
        (left.0, rw (same ∙ nothing.switches, ap (λ (l : Log). l.travelling) nothing.rest) left.1)
        nothing.written nothing.unwritten
    hop_goes (Some t) its there =
        let s = here t.tunnel in
        let ready = begins.ready in
        let can = can t there.switch its there.own in
        let log_is = there.hopped.log in
        goes_quiet begins (files_stay refl refl) _ (plane_stays refl refl refl)
        (hop_piece_of ready.refines row i t s (slice_index parts.near s) there.switch parts.ports
        ready.may can) (on_ok_weaker r (λ done. none_in _) log_is.written) log_is.written log_is.part
        (three_ok r (λ answered posted left. subst (λ bag. RefineJournal (world_setting_in parts)
        (before ++ item.Row row (Hop i) ∷ log_hop_written (length parts.log.bag + 1) there.switch
        (slice_index parts.near s) parts.ports t) (with_posts parts
        (record parts { log = log; switches = switches }) bag)) (sym posted) (rw (same ∙ there.only)
        (hop_refines ready.refines row i t s (slice_index parts.near s) there.switch parts.ports
        ready.may can log.travelling there.asked (within_here ready.refines i t s its refl)
        (switch_is ready.refines s there.switch (omega (arith, can.at, can.standing.stands.there))
        (own_of parts.switches.items s there.switch there.own)) answered left)))
        there.hopped.counted log_is.posted log_is.travels)
