-- Reading and writing items one after the other, as a loop does.
use Rattle.std.proofs.Common.{[], ◌++◌, ◌+◌, ◌-◌, ◌<◌, ◌∙◌, ◌∷◌, ◌≡◌, ◌≤◌, List, None, Option, Some, ap, append-nil, append_assoc, arith, refl, suc, sym, ℕ}
use Rattle.base.specs.Exports.{IfRefused}
use Rattle.base.specs.declared.error.Failure.{Failure}
use Rattle.wire.specs.declared.error.Malformed.{Malformed}
use Rattle.base.proofs.Exports.{IfRefused-weaker}
use Rattle.wire.specs.Exports.{WireFormat, wire_read_items, wire_format_then_read}

-- what was read before, and what is still read
abbrev pub with_front : {A : Type 0} → List A → Option (List A × List ℕ) → Option (List A × List ℕ)
with_front front read = wire_format_then_read read (λ xs. Some (front ++ xs.0, xs.1))

regroup : {A : Type 0} (front : List A) (x : A) (read : Option (List A × List ℕ))
    → with_front front (wire_format_then_read read (λ xs. Some (x ∷ xs.0, xs.1))) ≡ with_front (front ++ x ∷ []) read
regroup front x None = refl
regroup front x (Some xs) = ap (λ ys. Some (ys, xs.1)) (simp append_assoc)

pub goes_on : {A : Type 0} (f : WireFormat A) (front : List A) (count i : ℕ) (bytes : List ℕ) (x : A) (after : List ℕ) (total : Option (List A × List ℕ))
    → i < count → f.read bytes ≡ Some (x, after)
    → with_front front (wire_read_items f (count - i) bytes) ≡ total
    → with_front (front ++ x ∷ []) (wire_read_items f (count - (i + 1)) after) ≡ total
unfolding wire_read_items
goes_on f front count i bytes x after total lt h so_far =
    let k : count - i ≡ suc (count - (i + 1)) = omega arith in
    sym (rw (k, h) (regroup front x (wire_read_items f (count - (i + 1)) after))) ∙ so_far

pub stops : {A : Type 0} (f : WireFormat A) (front : List A) (count i : ℕ) (bytes : List ℕ) (total : Option (List A × List ℕ)) (error : Failure Malformed)
    → i < count → IfRefused (λ _. f.read bytes ≡ None) error
    → with_front front (wire_read_items f (count - i) bytes) ≡ total → IfRefused (λ _. total ≡ None) error
unfolding wire_read_items
stops f front count i bytes total error lt h so_far =
    let k : count - i ≡ suc (count - (i + 1)) = omega arith in
    IfRefused-weaker (λ _. f.read bytes ≡ None) (λ _. total ≡ None)
    (λ _ none. rw (← so_far, k, none) refl) error h

pub is_done : {A : Type 0} (f : WireFormat A) (front : List A) (count i : ℕ) (bytes : List ℕ) (total : Option (List A × List ℕ))
    → count ≤ i → with_front front (wire_read_items f (count - i) bytes) ≡ total → total ≡ Some (front, bytes)
unfolding wire_read_items
is_done f front count i bytes total le so_far = let k : count - i ≡ 0 = omega arith in
    sym so_far ∙ (rw k (ap (λ xs. Some (xs, bytes)) (append-nil front)))
