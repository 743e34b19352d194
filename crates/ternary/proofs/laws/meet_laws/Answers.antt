use Rattle.ternary.proofs.TernaryWords.{meets_decides, meet_both, meet_disjoint, meet_is_some, meet_word, meet_covered, covers_reflexive, meets_comm, meet_comm, meet_assoc, meet_any, meet_exact, meet_within, meet_greatest, meets_cover, meet_monotone, meet_narrowed}
use Rattle.ternary.proofs.laws.meet_laws.Goals as goal

pub returns : goal.returns
returns c = record {
  bitwise = meets_decides;
  both = meet_both;
  none = meet_disjoint;
  some = meet_is_some;
  word = meet_word;
  idempotent = λ a a_word. meet_covered a a a_word (covers_reflexive a);
  symmetric = meets_comm;
  commutative = meet_comm;
  associative = meet_assoc;
  any = meet_any;
  exact = meet_exact;
  within = meet_within;
  greatest = meet_greatest;
  covered = λ a b b_word. (meet_covered a b b_word, λ e. (meet_within a b b e).0);
  meets_cover = meets_cover;
  monotone = meet_monotone;
  narrowed = meet_narrowed;
}
