-- The same message to another receiver: only the byte of the receiver differs.
use Rattle.std.proofs.Common.{◌++◌, ◌+◌, ◌-◌, ◌∙◌, ◌∷◌, ◌≡◌, List, ap, arith, drop, length, length-append, refl, suc, sym, take, ℕ}
use Rattle.base.proofs.Exports.{div_ceil, drop-append-add, take-append-add}
use Rattle.ctrl_msg.specs.declared.message.Body.{Body}
use Rattle.ctrl_msg.specs.declared.message.Body.TheVariants.{Install}
use Rattle.ctrl_msg.specs.declared.message.Message.{Message}
use Rattle.ctrl_msg.specs.declared.message.Place.{Place}
use Rattle.wire.specs.Exports.{body, wire_chunks_behind_head, wire_equal_chunks, frames, wire_frames_from, wire_frames_of, wire_frames_of_receiver, wire_first_chunk_len, message, most_of_wire_chunk, wire_receiver}
use Rattle.message_bag.proofs.BagSpellingLengths.{length_receiver}
use Rattle.message_bag.proofs.BagTablesRestamped.{replaced}

spelled : (m : Message) → message.spell m ≡ wire_receiver.spell m.to ++ body.spell m.body
unfolding message
spelled m = refl

-- how many bytes of a body are in the first chunk
abbrev first_len : Body → List ℕ → ℕ
first_len (Install boot t) rest = 5
first_len b rest = length rest

head_is : (b : Body) (to : Place) (rest : List ℕ)
    → wire_first_chunk_len b (wire_receiver.spell to ++ rest) ≡ length (wire_receiver.spell to) + first_len b rest
head_is (Install boot t) to rest = omega (arith, length_receiver to)
head_is b to rest = length-append (wire_receiver.spell to) rest

-- the chunks behind the first one
abbrev others : ℕ → List ℕ → List (List ℕ)
others len rest = wire_equal_chunks (div_ceil (length rest - len) most_of_wire_chunk) most_of_wire_chunk (drop len rest)

cut : (first rest : List ℕ) (len : ℕ) → wire_chunks_behind_head (length first + len) (first ++ rest)
    ≡ (first ++ take len rest) ∷ others len rest
cut first rest len =
    let left : length (first ++ rest) - (length first + len) ≡ length rest - len =
    omega (arith, length-append first rest) in
    rw (left, take-append-add first rest len, drop-append-add first rest len) refl

-- the frames of a message with this receiver in its first one
abbrev framed : Body → List ℕ → List (List ℕ)
framed b to =
    let rest = body.spell b in
    let len = first_len b rest in wire_frames_of ((to ++ take len rest) ∷ others len rest)

frames_are : (m : Message) → frames m ≡ framed m.body (wire_receiver.spell m.to)
frames_are m = let rest = body.spell m.body in
    ap (λ bytes. wire_frames_of (wire_chunks_behind_head (wire_first_chunk_len m.body bytes) bytes)) (spelled m)
    ∙ ap (λ head. wire_frames_of (wire_chunks_behind_head head (wire_receiver.spell m.to ++ rest))) (head_is m.body m.to rest)
    ∙ ap wire_frames_of (cut (wire_receiver.spell m.to) rest (first_len m.body rest))

pub of_another_receiver : (m : Message) (to : Place)
    → frames (record m { to = to }) ≡ wire_frames_of_receiver to (frames m)
of_another_receiver m to =
    let rest = body.spell m.body in
    let len = first_len m.body rest in
    let count = suc (length (others len rest)) in
    frames_are (record m { to = to })
    ∙ ap (λ f. f ∷ wire_frames_from 1 count (others len rest))
    (sym (replaced 0 count (wire_receiver.spell m.to) (wire_receiver.spell to) (take len rest) 9 (omega (arith, length_receiver m.to))))
    ∙ ap (wire_frames_of_receiver to) (sym (frames_are m))
