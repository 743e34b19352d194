-- The definitions of this crate that others use, passed on from the files that define them.
pub use Rattle.ternary.specs.Laws.{WordCoversLaws, TernaryExactLaws, TernaryFreeLaws, WordHoldsLaws, TernaryMeetLaws}
pub use Rattle.ternary.specs.Meets.{WordsAgreeOnFixedBits, AgreesOnWordMask, AreDisjointWords, WordIncludes, IsWordFixedIn, IsTernaryMeet, any_word, exact_word, meeting_word, ternary_with_bit, ternary_without_bit, word_eq}
unfoldable pub use Rattle.ternary.specs.Meets.{word_admits, words_agree_at, word_covers_of, word_fix_of, free_word_bits, ternary_with_bit_freed, word_includes_at, is_word_bit_fixed, word_meet_of, word_meets}
pub use Rattle.ternary.specs.Word.{WordValue, word_fixed_value}
unfoldable pub use Rattle.ternary.specs.Word.{word_hex_digits, holds, ternary_word_text}
pub use Rattle.ternary.specs.WordBits.{IsWord}
