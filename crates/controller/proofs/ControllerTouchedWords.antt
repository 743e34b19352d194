-- The words of the rows that a change touches, listed as far as they may be told.
use Rattle.std.proofs.Common.{◌++◌, ◌<◌, ◌∙◌, ◌≡◌, List, ap, append_assoc, arith, inl, inr, length, nat_lt, refl, subst, sym, true}
use Rattle.base.proofs.Exports.{nat_tests}
use Rattle.ternary.specs.Exports.{WordValue}
use Rattle.switch_table.specs.Exports.{cache_all_touched, cache_few_touched}
use Rattle.controller.specs.Exports.{ControllerListsTouched, ControllerListsMoreTouched}

-- some are listed, and then others
pub lists_then : (one two three some others : List WordValue) → ControllerListsMoreTouched one two some
    → ControllerListsMoreTouched two three others → ControllerListsMoreTouched one three (some ++ others)
lists_then one two three some others first last = λ words is.
    subst (ControllerListsTouched three) (append_assoc words some others) (last (words ++ some) (first words is))

-- ---- what is told

many_told : (these : List WordValue) → 16 < length these → cache_few_touched these ≡ cache_all_touched
many_told these past =
    let is : nat_lt 16 (length these) ≡ true = grind (arith, nat_tests) in rw is refl

-- what is told of the words that are listed is what is told of all
pub told_alike : (listed words : List WordValue) → ControllerListsTouched listed words
    → cache_few_touched listed ≡ cache_few_touched words
told_alike listed words (inl same) = ap cache_few_touched same
told_alike listed words (inr many) = many_told listed many.0 ∙ sym (many_told words many.1)
