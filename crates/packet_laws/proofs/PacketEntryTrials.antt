-- Journals that aren't those of a schedule's rows and packets.
use Rattle.std.proofs.Common.{[], ◌∷◌, ◌≡◌, false, true, ℕ, rules}
use Rattle.update_machine.specs.Exports.{Crash, Header, Item, Lose, One, Packet, serves}
use Rattle.packet_laws.specs.Exports.{ArePacketRowsEntered, EachPacketRowEnters, packet_law_step_rows}

-- nothing, where a packet is asked for
nothing_is_no_answer : (s : ℕ) (header : Header)
    → ArePacketRowsEntered (packet_law_step_rows 1 (One (Packet s header) ∷ [])) [] → ⊥
nothing_is_no_answer s header entered = search rules

-- a loss or a crash that no row asks for
no_such_loss : (header : Header) → ArePacketRowsEntered (packet_law_step_rows 1 (One (Packet 0 header) ∷ [])) (Item.Row 1
    (Packet 0 header) ∷ Item.Entered 1 0 header ∷ Item.Row 1 (Lose 1) ∷ Item.Lost 1 ∷ []) → ⊥
no_such_loss header entered = let rows = entered.in_order in absurd cc

no_such_crash : ArePacketRowsEntered (packet_law_step_rows 1 []) (Item.Row 1 (Crash 0) ∷ Item.Down 0 ∷ []) → ⊥
no_such_crash entered = let rows = entered.in_order in absurd cc

-- a packet that is closed at a switch that serves
refused_where_served : (header : Header) → EachPacketRowEnters []
    (Item.Row 1 (Packet 0 header) ∷ Item.Closed 1 0 ∷ []) → ⊥
unfolding serves
refused_where_served header enters = let closed : true ≡ false = enters.0.2 in absurd cc

-- a row without its entry, or with that of another switch
no_entry : (header : Header) → EachPacketRowEnters [] (Item.Row 1 (Packet 0 header) ∷ []) → ⊥
no_entry header enters = absurd enters

elsewhere : (header : Header) → EachPacketRowEnters []
    (Item.Row 1 (Packet 0 header) ∷ Item.Entered 1 1 header ∷ []) → ⊥
elsewhere header enters = let same : ◌≡◌ {A = ℕ} 1 0 = enters.0.1 in absurd cc

-- an entry without its row, or a second one
stray : (header : Header) → EachPacketRowEnters [] (Item.Entered 1 0 header ∷ []) → ⊥
stray header enters = absurd enters

stray_refusal : EachPacketRowEnters [] (Item.Closed 1 0 ∷ []) → ⊥
stray_refusal enters = absurd enters

twice : (header : Header) → EachPacketRowEnters []
    (Item.Row 1 (Packet 0 header) ∷ Item.Entered 1 0 header ∷ Item.Closed 2 0 ∷ []) → ⊥
twice header enters = absurd enters.1
