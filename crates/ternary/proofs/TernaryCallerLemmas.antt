-- What proofs above cite: of words, bit by bit and as sets of headers.
pub use Rattle.ternary.proofs.TernaryBits.{both_set, or_left, or_right, ternary_without_bit-other, ternary_without_bit-same}
pub use Rattle.ternary.proofs.TernaryWords.{any_covers, any_holds, apart_none, covers_decides, covers_full, covers_half, covers_held, covers_reflexive, covers_transitive}
pub use Rattle.ternary.proofs.TernaryWords.{fix_holds, fix_within, fix_word}
pub use Rattle.ternary.proofs.TernaryWords.{held_meets, meet_is_some, meet_both, meet_disjoint, meet_greatest, meet_narrowed, meet_none, meet_some, meet_within, meet_word, meets_comm, meets_cover, meets_half, met_joined}
pub use Rattle.ternary.proofs.TernaryFreeBits.{any_unfixed, free_bits_shorter}
