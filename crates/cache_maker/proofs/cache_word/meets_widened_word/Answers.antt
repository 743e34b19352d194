use Rattle.std.proofs.Common.{◌∙◌, ne_eqb, sym}
use Rattle.cache_maker.proofs.CacheWordDifferences.{lower_tells, upper_tells}
use Rattle.cache_maker.proofs.cache_word.meets_widened_word.Goals as goal

pub returns-else-upper-upper_cache_word_half-eq0 : goal.returns-else-upper-upper_cache_word_half-eq0
returns-else-upper-upper_cache_word_half-eq0 c = let other = c.if-upper-upper_cache_word_half-eq0.false in
    ne_eqb _ _ other ∙ sym (upper_tells c.args.h c.args.fixed c.args.word.now (rw (
      ← c.upper_cache_word_half.ensures,
      ← c.value.ensures.value,
      ← c.upper_cache_word_half-2.ensures,
      ← c.mask.ensures.mask,
      ← c.upper_cache_word_half-3.ensures,
      ← c.upper_cache_word_half-4.ensures,
    ) other))

pub returns-then-upper-upper_cache_word_half-eq0 : goal.returns-then-upper-upper_cache_word_half-eq0
returns-then-upper-upper_cache_word_half-eq0 c = rw (
  c.cache_word_halves_meet.ensures,
  c.lower_cache_word_half.ensures,
  c.lower_cache_word_half-then-upper-upper_cache_word_half-eq0.ensures,
  c.lower_cache_word_half-then-upper-upper_cache_word_half-eq0-2.ensures,
  c.lower_cache_word_half-then-upper-upper_cache_word_half-eq0-3.ensures,
  c.value-then-upper-upper_cache_word_half-eq0.ensures.value,
  c.mask-then-upper-upper_cache_word_half-eq0.ensures.mask,
)
    (lower_tells c.args.h c.args.fixed c.args.word.now (rw (
      ← c.upper_cache_word_half.ensures,
      ← c.value.ensures.value,
      ← c.upper_cache_word_half-2.ensures,
      ← c.mask.ensures.mask,
      ← c.upper_cache_word_half-3.ensures,
      ← c.upper_cache_word_half-4.ensures,
    ) c.if-upper-upper_cache_word_half-eq0.true))
