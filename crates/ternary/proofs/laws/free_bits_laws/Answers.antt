use Rattle.ternary.proofs.TernaryFreeBits.{free_bits_member, free_bits_ascending, any_free_bits, exact_free_bits, free_bits_fixed, free_bits_shorter}
use Rattle.ternary.proofs.laws.free_bits_laws.Goals as goal

pub returns : goal.returns
returns c = record {
  member = free_bits_member;
  ascending = free_bits_ascending;
  any = any_free_bits;
  exact = exact_free_bits;
  fixed = free_bits_fixed;
  shorter = free_bits_shorter;
}
