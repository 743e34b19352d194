-- What comes before the tables in an installation is read as it is spelled.
use Rattle.std.proofs.Common.{[], ◌++◌, ◌∙◌, ◌≡◌, Err, IfErr, IfOk, List, None, Ok, Result, Some, ap, append-nil, cond, eqb, eqb-true, length, refl, subst, sym, true, ℕ}
use Rattle.base.proofs.Exports.{IfRefused-weaker, cond_some, nil_from_length, none_is_not, passes_then_some, same_Some}
use Rattle.ctrl_msg.specs.declared.message.Place.{Place}
use Rattle.base.specs.Exports.{IfRefused}
use Rattle.base.specs.declared.error.Failure.{Failure}
use Rattle.wire.specs.declared.error.Malformed.{Malformed}
use Rattle.wire.specs.Exports.{GivesWireReading, IsWireFront, wire_message_front, wire_read_front, wire_spelled_front}
use Rattle.wire.proofs.WireFormatLaws.{AreBytes, then_some}
use Rattle.wire.proofs.WireLawfulFormats.{front_lawful}

front_takes : (bytes : List ℕ) (f : Place × ℕ) (rest : List ℕ) → AreBytes bytes → wire_read_front bytes ≡ Some (f, rest)
    → IsWireFront f.0 f.1 bytes
front_takes bytes f rest are e =
    let b = then_some (wire_message_front.read bytes)
    (λ x. cond (eqb x.0.1.0 1) (cond (eqb (length x.1) 0) (Some ((x.0.0, x.0.1.1), x.1)) None) None) (f, rest) e in
    let t = front_lawful.takes bytes b.0.0 b.0.1 are b.1 in
    let g = passes_then_some (eqb b.0.0.1.0 1) (cond (eqb (length b.0.1) 0) (Some ((b.0.0.0, b.0.0.1.1), b.0.1)) None) (f, rest) b.2 in
    let h = cond_some (eqb (length b.0.1) 0) ((b.0.0.0, b.0.0.1.1), b.0.1) (f, rest) g.1 in
    let none : b.0.1 ≡ [] = nil_from_length b.0.1 (eqb-true _ _ h.0) in
    let kind : b.0.0.1.0 ≡ 1 = eqb-true _ _ g.0 in
    let is : IsWireFront b.0.0.0 b.0.0.1.1 bytes = record {
      fits = subst (λ k. wire_message_front.fits (b.0.0.0, (k, b.0.0.1.1)) ≡ true) kind t.fits;
      spelled = t.parts ∙ ap (λ u. wire_message_front.spell b.0.0 ++ u) none
          ∙ append-nil (wire_message_front.spell b.0.0)
          ∙ ap (λ k. wire_message_front.spell (b.0.0.0, (k, b.0.0.1.1))) kind;
    } in
    subst (λ (p : (Place × ℕ) × List ℕ). IsWireFront p.0.0 p.0.1 bytes) h.1 is

front_again : (bytes : List ℕ) (to : Place) (boot : ℕ) → IsWireFront to boot bytes → wire_read_front bytes ≡ Some ((to, boot), [])
front_again bytes to boot is =
    rw (ap wire_message_front.read (is.spelled ∙ sym (append-nil (wire_spelled_front to boot)))
    ∙ front_lawful.again (to, (1, boot)) [] is.fits) refl

-- no two installations have one front
pub one_front : (bytes : List ℕ) (a b : Place) (i j : ℕ) → IsWireFront a i bytes → IsWireFront b j bytes → ◌≡◌ {A = Place × ℕ} (a, i) (b, j)
one_front bytes a b i j first second =
    ap (λ (p : (Place × ℕ) × List ℕ). p.0)
    (same_Some ((a, i), []) ((b, j), []) (sym (front_again bytes a i first) ∙ front_again bytes b j second))

pub front_found : (r : Result (Place × ℕ) (Failure Malformed)) (bytes rest : List ℕ) → AreBytes bytes
    → GivesWireReading (λ f. f) (wire_read_front bytes) r rest → IfOk r (λ f. IsWireFront f.0 f.1 bytes)
front_found (Ok f) bytes rest are gives = front_takes bytes f rest are gives
front_found (Err error) bytes rest are gives = tt

pub no_front : (r : Result (Place × ℕ) (Failure Malformed)) (bytes rest : List ℕ) → GivesWireReading (λ f. f) (wire_read_front bytes) r rest
    → IfErr r (IfRefused (λ _. (to : Place) (boot : ℕ) → IsWireFront to boot bytes → ⊥))
no_front (Ok f) bytes rest gives = tt
no_front (Err error) bytes rest gives = IfRefused-weaker (λ _. wire_read_front bytes ≡ None)
    (λ _. (to : Place) (boot : ℕ) → IsWireFront to boot bytes → ⊥) (λ _ none to boot is. none_is_not
    ((to, boot), []) (sym none ∙ front_again bytes to boot is)) error gives
