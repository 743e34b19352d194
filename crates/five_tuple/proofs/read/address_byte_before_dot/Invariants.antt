use Rattle.std.proofs.Common.{◌≡◌, ◌≤◌, take, true}
use Rattle.std.specs.Char.{is_ascii_digit}
use Rattle.std.specs.List.{list_all}
use Rattle.std.specs.Str.Parse.{digits_value}
use Rattle.five_tuple.proofs.read.address_byte_before_dot.Given as goal

-- the bytes so far are digits, and write the number, which is small enough
abbrev pub invariant-loop-place : goal.invariant-loop-place
invariant-loop-place l = record {
  digits : list_all is_ascii_digit (take l.place l.text) ≡ true;
  value : l.number ≡ digits_value 10 (take l.place l.text);
  small : l.number ≤ 255;
}
