use Rattle.std.proofs.Common.{[], ◌++◌, ◌∙◌, ◌∷◌, List, ap, append_assoc, arith, drop, sym, take, ℕ}
use Rattle.base.proofs.Exports.{set_split}
use Rattle.wire.proofs.frames.set_wire_receiver.Goals as goal

pub returns-clause-written : goal.returns-clause-written
returns-clause-written c =
    let frame = c.args.frame.now in
    let byte = c.receiver_byte.result in
    set_split frame 8 byte (omega (arith, c.requires.long))
    ∙ sym (append_assoc (take 8 frame) (byte ∷ []) (drop 9 frame))
    ∙ ap (λ (to : List ℕ). take 8 frame ++ to ++ drop 9 frame) (sym c.receiver_byte.ensures.spelled)
