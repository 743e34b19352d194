use Rattle.cache_maker.proofs.IndependentCacheWords.{test_true, test_of, first_hit, smaller}
use Rattle.cache_maker.proofs.laws.independent_cache_word_laws.Goals as goal

pub returns : goal.returns
returns c =
    let covers = c.covers_laws.ensures in
    let meet = c.meet_laws.ensures in record {
      test = λ region rules index word.
          (test_true region rules index word, test_of region rules index word);
      first_hit = first_hit covers meet;
      within = λ region rules index word h is held. covers.held region word h is.in_region held;
      smaller = smaller covers meet;
    }
