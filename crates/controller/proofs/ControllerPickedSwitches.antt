-- Lists of the switches that pass a test, or that a mask names.
use Rattle.std.proofs.Common.{[], ◌<◌, ◌∙◌, ◌∷◌, ◌≡◌, Bool, List, ap, arith, eqb, false, filter, get_or, length, refl, slice_get, suc, true, zero, ℕ}
use Rattle.base.proofs.Exports.{from_bool, option_map_or, range_with_len}
use Rattle.version_update.specs.declared.record.SwitchRecord.{SwitchRecord}
use Rattle.version_update.specs.Exports.{MaskNamesUpdateSwitches}
use Rattle.controller.specs.Exports.{controller_switches_in_mask, controller_switches_by_record}

-- tests that agree pick the same
pub picked_same : (p q : ℕ → Bool) → ((s : ℕ) → p s ≡ q s) → (xs : List ℕ)
    → filter p xs ≡ filter q xs
picked_same p q same [] = refl
picked_same p q same (x ∷ xs) = cc (same x, picked_same p q same xs)

-- those of the switches below n
abbrev pub those_below : (SwitchRecord → Bool) → List SwitchRecord → ℕ → List ℕ
those_below passes switches n = filter (λ s. option_map_or passes (slice_get switches s) false)
    (range_with_len 0 n)

-- a mask's bits give those that it names
pub those_named : (mask n : ℕ) (passes : SwitchRecord → Bool) (switches : List SwitchRecord)
    → n ≡ length switches → MaskNamesUpdateSwitches mask passes switches → controller_switches_in_mask mask n
    ≡ controller_switches_by_record passes switches
those_named mask n passes switches all names = ap (controller_switches_in_mask mask) all ∙ picked_same _ _
    (λ s. ap (λ b. eqb b 1) (names s) ∙ bit_of (option_map_or passes (slice_get switches s) false))
    (range_with_len 0 (length switches))
  where
    bit_of : (b : Bool) → eqb (from_bool b) 1 ≡ b
    bit_of true = refl
    bit_of false = refl

-- a switch that is there passes where its record does
pub passes_there : (passes : SwitchRecord → Bool) (switches : List SwitchRecord) (s : ℕ)
    (d : SwitchRecord) → s < length switches → option_map_or passes (slice_get switches s) false
    ≡ passes (get_or switches s d)
passes_there passes [] s d within = absurd (omega arith)
passes_there passes (known ∷ more) zero d within = refl
passes_there passes (known ∷ more) (suc s) d within = passes_there passes more s d (omega arith)
