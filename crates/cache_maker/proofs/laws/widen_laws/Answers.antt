use Rattle.cache_maker.specs.Independent.{widen}
use Rattle.cache_maker.proofs.IndependentCacheWords.{exact_independent}
use Rattle.cache_maker.proofs.WidenedCacheWords.{widened_holds, widened_independent, widened_word, widest}
use Rattle.cache_maker.proofs.laws.widen_laws.Goals as goal

pub returns : goal.returns
unfolding widen
returns c =
    let covers = c.covers_laws.ensures in
    let meet = c.meet_laws.ensures in
    let exact = c.ternary_exact_laws.ensures in
    let free = c.free_laws.ensures in record {
      widest = λ h region rules index is. record {
        is_word = widened_word free h region rules index 104 (exact.word h is.bound);
        header = widened_holds covers exact free h region rules index 104 is.bound;
        independent = widened_independent h region rules index 104 (exact_independent covers meet
            region rules index h is.region_word is.words is.bound is.held is.first_hit);
        widest = λ bit within fixed freed. widest covers meet free h region rules index bit within
            fixed freed;
      };
    }
