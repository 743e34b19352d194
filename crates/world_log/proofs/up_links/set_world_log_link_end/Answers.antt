use Rattle.std.proofs.Common.{if◌then◌else◌, ◌%◌, ◌*◌, ◌<◌, ◌==◌, ◌^◌, ◌||◌, ◌∙◌, ◌≡◌, Bool, ap, bit_and, bit_or, eq-eqb, eqb-true, false, refl, sym, true, w64, ℕ}
use Rattle.base.proofs.Exports.{bit_at, bit_at_clear_other, bit_at_clear_same, bit_not, has-or, has-pow_other, has-pow_same, or_right}
use Rattle.base.specs.Exports.{has}
use Rattle.world_log.proofs.up_links.set_world_log_link_end.Goals as goal

-- a switch is added to a mask, or taken from it
with_end : (mask other new : ℕ) (up : Bool) → up ≡ true → new ≡ bit_or mask (2 ^ other)
    → (k : ℕ) → k < 64 → has new k ≡ (if other == k then up else has mask k)
with_end mask other new up is new_is k below =
    ap (λ m. has m k) new_is ∙ has-or mask (2 ^ other) k ∙ by_place (other == k) refl
  where
    or_false : (b : Bool) → (b || false) ≡ b
    or_false true = refl
    or_false false = refl

    by_place : (b : Bool) → (other == k) ≡ b
        → (has mask k || has (2 ^ other) k) ≡ (if b then up else has mask k)
    by_place true e = ap (λ j. has mask k || has (2 ^ other) j) (sym (eqb-true other k e))
        ∙ ap (λ b. has mask k || b) (has-pow_same other) ∙ or_right (has mask k) true refl ∙ sym is
    by_place false e = ap (λ b. has mask k || b) (has-pow_other other k (λ same. absurd
        (let yes : (other == k) ≡ true = eq-eqb other k (sym same) in cc))) ∙ or_false (has mask k)

without_end : (mask other : ℕ) (up : Bool) → up ≡ false → other < 64 → (k : ℕ) → k < 64
    → has (bit_and mask (bit_not w64 (1 * 2 ^ other % 2 ^ 64))) k
    ≡ (if other == k then up else has mask k)
unfolding has
without_end mask other up is there k below = by_place (other == k) refl where
  by_place : (b : Bool) → (other == k) ≡ b
      → (bit_at (bit_and mask (bit_not w64 (1 * 2 ^ other % 2 ^ 64))) k == 1)
      ≡ (if b then up else (bit_at mask k == 1))
  by_place true e = cc (eqb-true other k e, bit_at_clear_same w64 mask other there, is)
  by_place false e = ap (λ d. d == 1) (bit_at_clear_other w64 mask other there k below
      (λ same. absurd (let yes : (other == k) ≡ true = eq-eqb other k (sym same) in cc)))

pub returns-then-up : goal.returns-then-up
returns-then-up c = with_end c.args.mask c.args.other c.with.result c.args.up c.if-up.true
    c.with.ensures.bits

pub returns-else-up : goal.returns-else-up
returns-else-up c = without_end c.args.mask c.args.other c.args.up c.if-up.false c.requires
