-- The bytes that a message spells are its one spelling.
use Rattle.std.proofs.Common.{[], ◌++◌, ◌∙◌, ◌≡◌, Err, IfErr, IfOk, List, None, Ok, Result, Some, ap, append-nil, cond, eqb, eqb-true, length, refl, subst, sym, ℕ}
use Rattle.base.proofs.Exports.{IfRefused-weaker, cond_some, nil_from_length, none_is_not, same_Some}
use Rattle.ctrl_msg.specs.declared.message.Message.{Message}
use Rattle.base.specs.Exports.{IfRefused}
use Rattle.base.specs.declared.error.Failure.{Failure}
use Rattle.wire.specs.declared.error.Malformed.{Malformed}
use Rattle.wire.specs.Exports.{GivesWireReading, IsWireSpelling, message, whole_wire_message}
use Rattle.wire.proofs.WireFormatLaws.{AreBytes, then_some}
use Rattle.wire.proofs.WireLawfulFormats.{message_lawful}

pub whole_takes : (bytes : List ℕ) (m : Message) (rest : List ℕ) → AreBytes bytes
    → whole_wire_message bytes ≡ Some (m, rest) → IsWireSpelling m bytes
whole_takes bytes m rest are e =
    let b = then_some (message.read bytes) (λ x. cond (eqb (length x.1) 0) (Some x) None) (m, rest) e in
    let t = message_lawful.takes bytes b.0.0 b.0.1 are b.1 in
    let g = cond_some (eqb (length b.0.1) 0) b.0 (m, rest) b.2 in
    let none : b.0.1 ≡ [] = nil_from_length b.0.1 (eqb-true _ _ g.0) in
    let all : IsWireSpelling b.0.0 bytes = record {
      fits = t.fits;
      spelled = t.parts ∙ ap (λ u. message.spell b.0.0 ++ u) none ∙ append-nil (message.spell b.0.0);
    } in
    subst (λ (p : Message × List ℕ). IsWireSpelling p.0 bytes) g.1 all

pub whole_again : (bytes : List ℕ) (m : Message) → IsWireSpelling m bytes → whole_wire_message bytes
    ≡ Some (m, [])
whole_again bytes m h = rw (ap message.read (h.spelled ∙ sym (append-nil (message.spell m)))
    ∙ message_lawful.again m [] h.fits) refl

-- no two messages have one spelling
pub one_message : (bytes : List ℕ) (a b : Message) → IsWireSpelling a bytes → IsWireSpelling b bytes → a ≡ b
one_message bytes a b ha hb = ap (λ (p : Message × List ℕ). p.0)
    (same_Some (a, []) (b, []) (sym (whole_again bytes a ha) ∙ whole_again bytes b hb))

pub found : (r : Result Message (Failure Malformed)) (bytes rest : List ℕ) → AreBytes bytes
    → GivesWireReading (λ m. m) (whole_wire_message bytes) r rest → IfOk r (λ m. IsWireSpelling m bytes)
found (Ok m) bytes rest are h = whole_takes bytes m rest are h
found (Err error) bytes rest are h = tt

pub only : (r : Result Message (Failure Malformed)) (bytes rest : List ℕ) → AreBytes bytes
    → GivesWireReading (λ m. m) (whole_wire_message bytes) r rest
    → IfOk r (λ m. (other : Message) → IsWireSpelling other bytes → other ≡ m)
only (Ok m) bytes rest are h = λ other spelled. one_message bytes other m spelled (whole_takes bytes m rest are h)
only (Err error) bytes rest are h = tt

pub malformed : (r : Result Message (Failure Malformed)) (bytes rest : List ℕ)
    → GivesWireReading (λ m. m) (whole_wire_message bytes) r rest
    → IfErr r (IfRefused (λ _. (m : Message) → IsWireSpelling m bytes → ⊥))
malformed (Ok m) bytes rest h = tt
malformed (Err error) bytes rest h =
    IfRefused-weaker (λ _. whole_wire_message bytes ≡ None) (λ _. (m : Message) → IsWireSpelling m bytes → ⊥)
    (λ _ none m spelled. none_is_not (m, []) (sym none ∙ whole_again bytes m spelled)) error h
