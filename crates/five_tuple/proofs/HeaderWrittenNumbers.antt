-- When a text writes a number, one cause at a time.
use Rattle.std.proofs.Common.{◌&&◌, ◌*◌, ◌+◌, ◌-◌, ◌<◌, ◌≡◌, ◌≤◌, List, None, Some, ap, arith, false, get_or, le-ltb, leb, length, not, take, true, ℕ}
use Rattle.std.proofs.lemmas.Bool.{lt-ltb, le-leb, lt-leb, and_left, and_right}
use Rattle.std.proofs.lemmas.List.Folds.{list_all_at}
use Rattle.std.proofs.lemmas.Str.Parse.{digits_value-take-le}
use Rattle.std.proofs.lemmas.Int.Digits.{digits_value_more}
use Rattle.std.proofs.lemmas.Bool.Decides.{nat_tests}
use Rattle.std.specs.Char.{is_ascii_digit, digit_value}
use Rattle.std.specs.List.{list_all}
use Rattle.std.specs.Str.Parse.{digits_value}
use Rattle.five_tuple.specs.Exports.{tuple_text_has_leading_zero, is_tuple_number_text, tuple_number_up_to}

module _ (most : ℕ) (text : List ℕ) where
  refused : is_tuple_number_text text && leb (digits_value 10 text) most ≡ false
      → None ≡ tuple_number_up_to most text
  unfolding tuple_number_up_to
  refused e = rw e

  pub no_digit : length text ≡ 0 → None ≡ tuple_number_up_to most text
  no_digit e = refused (rw (le-ltb 0 (length text) (omega arith)))

  pub leading_zero : tuple_text_has_leading_zero text ≡ true → None ≡ tuple_number_up_to most text
  leading_zero e = refused (and_left _ _ (and_left _ _ (and_right _ _ (ap not e))))

  pub other_byte : (i : ℕ) → i < length text → is_ascii_digit (get_or text i 0) ≡ false
      → None ≡ tuple_number_up_to most text
  other_byte i h e = let d = list_all_at is_ascii_digit text i 0 h e in refused
      (and_left _ _ (and_right _ _ d))

  pub too_large : (i : ℕ) → most < digits_value 10 (take i text) → None ≡ tuple_number_up_to most text
  too_large i h = let d = lt-leb (digits_value 10 text) most
      (omega (arith, digits_value-take-le 10 text i (omega arith))) in refused (and_right _ _ d)

  pub accepted : 0 < length text → tuple_text_has_leading_zero text ≡ false → list_all is_ascii_digit text
      ≡ true → digits_value 10 text ≤ most → Some (digits_value 10 text) ≡ tuple_number_up_to most text
  unfolding tuple_number_up_to
  accepted h z d l = rw (lt-ltb 0 (length text) h, z, d, le-leb (digits_value 10 text) most l)

digit_value_is : (c : ℕ) → is_ascii_digit c ≡ true → digit_value c ≡ c - 48
digit_value_is c h = grind (arith, nat_tests)

-- one more digit
pub next_digit : (text : List ℕ) (i : ℕ) → i < length text → is_ascii_digit (get_or text i 0) ≡ true
    → digits_value 10 (take (i + 1) text) ≡ digits_value 10
    (take i text) * 10 + (get_or text i 0 - 48)
next_digit text i h d = cc (digits_value_more 10 text i h, digit_value_is (get_or text i 0) d)
