use Rattle.ternary.proofs.TernaryWords.{fix_holds, halves_split, halves_apart, fix_within, fix_word, fix_fixed, fix_other, held_admits, meets_half, covers_half}
use Rattle.ternary.proofs.laws.word_fix_laws.Goals as goal

pub returns : goal.returns
returns c = record {
  half = λ w k one h free. fix_holds w k one free h;
  split = halves_split;
  apart = halves_apart;
  within = fix_within;
  word = fix_word;
  same_bit = fix_fixed;
  other_bit = λ w k j one. fix_other w k one j;
  admits_bit = held_admits;
  meets_half = meets_half;
  covers_half = covers_half;
}
