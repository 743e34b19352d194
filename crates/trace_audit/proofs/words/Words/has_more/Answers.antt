use Rattle.std.proofs.Common.{[], ◌∷◌, ◌≡◌, List, MatchBool, subst, sym, ℕ}
use Rattle.trace_audit.specs.Exports.{trace_words_left}
use Rattle.trace_audit.proofs.AuditFirstWords.{more_left}
use Rattle.trace_audit.proofs.words.Words.has_more.Goals as goal

pub returns : goal.returns
returns c = subst (λ words. MatchBool c.is_some.result ((word : List ℕ) × (others : List (List ℕ))
    × (words ≡ word ∷ others)) (words ≡ [])) c.self.view_is (subst (λ more. MatchBool more
    ((word : List ℕ) × (others : List (List ℕ)) × (trace_words_left c.self.inside.rest ≡ word ∷ others))
    (trace_words_left c.self.inside.rest ≡ [])) (sym c.is_some.ensures) (more_left c.self.inside.rest))
