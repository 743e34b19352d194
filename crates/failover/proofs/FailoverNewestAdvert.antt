-- The newest advert of an origin.
use Rattle.std.proofs.Common.{[], ◌&&◌, ◌++◌, ◌<◌, ◌==◌, ◌||◌, ◌∷◌, ◌≡◌, ◌≢◌, All, Bool, List, None, Option, Some, append-nil, append_assoc, arith, false, nat_lt, option_to_list, refl, true, ℕ, rules}
use Rattle.base.proofs.Exports.{All-append, All-cons, All-nil, All-push, All-same, All-weaker, cases_eq, nat_tests, option_map_or}
use Rattle.failover.specs.declared.advert.Advert.{Advert}
use Rattle.failover.specs.Exports.{AreAdvertsByOrigin, IsNewestAdvert, adverts_after_hearing, adverts_after_hearing_all, held_advert, is_newer_advert, is_advert_news}
use Rattle.failover.proofs.FailoverHeldAdverts.{hearing, held_heard, held_others, by_origin-hearing}

pub not_newer : (boot seq : ℕ) → (nat_lt boot boot || ((boot == boot) && nat_lt seq seq)) ≡ false
not_newer boot seq = grind (arith, nat_tests)

pub newer_through : (a b c : Advert) → is_newer_advert a b ≡ true → is_newer_advert b c ≡ true → is_newer_advert a c ≡ true
newer_through a b c p q = grind (arith, nat_tests)

newer_past : (a b c : Advert) → is_newer_advert a b ≡ true → is_newer_advert c b ≡ false → is_newer_advert a c ≡ true
newer_past a b c p q = grind (arith, nat_tests)

-- ---- one advert more

-- one behind the others that is no newer
push_behind : (origin : ℕ) (seen : List Advert) (advert best : Advert) →
    (advert.origin ≡ origin → is_newer_advert advert best ≡ false) → IsNewestAdvert origin seen (Some best) →
    IsNewestAdvert origin (seen ++ advert ∷ []) (Some best)
push_behind origin seen advert best old (before, after, parts, of_best, older, later) = (
  before,
  after ++ advert ∷ [],
  cc (parts, append_assoc before (best ∷ after) (advert ∷ [])),
  of_best,
  older,
  All-push (λ a. a.origin ≡ origin → is_newer_advert a best ≡ false) after advert later old,
)

push_other : (origin : ℕ) (seen : List Advert) (advert : Advert) (now : Option Advert) →
    advert.origin ≢ origin → IsNewestAdvert origin seen now → IsNewestAdvert origin (seen ++ advert ∷ []) now
push_other origin seen advert None apart newest =
    All-push (λ a. a.origin ≢ origin) seen advert newest apart
push_other origin seen advert (Some best) apart newest =
    push_behind origin seen advert best (λ e. absurd (apart e)) newest

push_first : (origin : ℕ) (seen : List Advert) (advert : Advert) → advert.origin ≡ origin →
    IsNewestAdvert origin seen None → IsNewestAdvert origin (seen ++ advert ∷ []) (Some advert)
push_first origin seen advert of_it newest = search rules

push_newer : (origin : ℕ) (seen : List Advert) (advert best : Advert) → advert.origin ≡ origin →
    is_newer_advert advert best ≡ true → IsNewestAdvert origin seen (Some best) →
    IsNewestAdvert origin (seen ++ advert ∷ []) (Some advert)
push_newer origin seen advert best of_it newer (before, after, parts, of_best, older, later) =
    let P : Advert → Type 0 = λ a. a.origin ≡ origin → is_newer_advert advert a ≡ true in
    let back : All P (best ∷ after) = All-cons P best after (λ e. newer)
    (All-weaker (λ a. a.origin ≡ origin → is_newer_advert a best ≡ false) P
    (λ a h e. newer_past advert best a newer (h e)) after later) in (
      seen,
      [],
      refl,
      of_it,
      All-same P seen (before ++ best ∷ after) parts (All-append P before
          (best ∷ after) (All-weaker (λ a. a.origin ≡ origin → is_newer_advert best a ≡ true) P
          (λ a h e. newer_through advert best a newer (h e)) before older) back),
      All-nil (λ a. a.origin ≡ origin → is_newer_advert a advert ≡ false),
    )

push_news : (origin : ℕ) (seen : List Advert) (advert : Advert) (now : Option Advert) →
    advert.origin ≡ origin → option_map_or (is_newer_advert advert) now true ≡ true →
    IsNewestAdvert origin seen now → IsNewestAdvert origin (seen ++ advert ∷ []) (Some advert)
push_news origin seen advert None of_it news newest = push_first origin seen advert of_it newest
push_news origin seen advert (Some best) of_it news newest =
    push_newer origin seen advert best of_it news newest

push_old : (origin : ℕ) (seen : List Advert) (advert : Advert) (now : Option Advert) →
    option_map_or (is_newer_advert advert) now true ≡ false → IsNewestAdvert origin seen now →
    IsNewestAdvert origin (seen ++ advert ∷ []) now
push_old origin seen advert now old newest = search (rules, push_behind)

-- ---- as it is heard

within : (origin : ℕ) (rest : Bool) → origin < 64 → (nat_lt origin 64 && rest) ≡ rest
within origin rest below = grind (arith, nat_tests)

news_test : (adverts : List (Option Advert)) (advert : Advert) → advert.origin < 64 →
    is_advert_news adverts advert ≡ option_map_or (is_newer_advert advert) (held_advert adverts advert.origin)
    true
unfolding is_advert_news
news_test adverts advert below = within advert.origin _ below

newest_same : (adverts : List (Option Advert)) (seen : List Advert) (advert : Advert) →
    AreAdvertsByOrigin adverts → advert.origin < 64 →
    IsNewestAdvert advert.origin seen (held_advert adverts advert.origin) →
    IsNewestAdvert advert.origin (seen ++ advert ∷ [])
    (held_advert (adverts_after_hearing adverts advert) advert.origin)
newest_same adverts seen advert by below newest =
    search (rules, hearing, held_heard, push_news, news_test, push_old)

newest_hearing : (adverts : List (Option Advert)) (seen : List Advert) (advert : Advert)
    (origin : ℕ) → AreAdvertsByOrigin adverts → origin < 64
    → IsNewestAdvert origin seen (held_advert adverts origin) →
    IsNewestAdvert origin (seen ++ advert ∷ []) (held_advert (adverts_after_hearing adverts advert) origin)
newest_hearing adverts seen advert origin by below newest =
    search (rules, cases_eq, newest_same, held_others, push_other)

newest_after : (adverts : List (Option Advert)) (seen heard : List Advert) (origin : ℕ) →
    AreAdvertsByOrigin adverts → origin < 64 → IsNewestAdvert origin seen (held_advert adverts origin) →
    IsNewestAdvert origin (seen ++ heard) (held_advert (adverts_after_hearing_all adverts heard) origin)
newest_after adverts seen [] origin by below newest = rw (append-nil seen) newest
newest_after adverts seen (advert ∷ heard) origin by below newest =
    rw (append_assoc seen (advert ∷ []) heard) at (newest_after (adverts_after_hearing adverts advert)
    (seen ++ advert ∷ []) heard origin (by_origin-hearing adverts advert by) below
    (newest_hearing adverts seen advert origin by below newest))

newest_held : (origin : ℕ) (now : Option Advert) →
    ((advert : Advert) → now ≡ Some advert → advert.origin ≡ origin) →
    IsNewestAdvert origin (option_to_list now) now
newest_held origin None by = All-nil (λ a. a.origin ≢ origin)
newest_held origin (Some advert) by = (
  [],
  [],
  refl,
  by advert refl,
  All-nil (λ a. a.origin ≡ origin → is_newer_advert advert a ≡ true),
  All-nil (λ a. a.origin ≡ origin → is_newer_advert a advert ≡ false),
)

pub held_newest : (adverts : List (Option Advert)) (heard : List Advert) (origin : ℕ) →
    AreAdvertsByOrigin adverts → origin < 64 →
    IsNewestAdvert origin (option_to_list (held_advert adverts origin) ++ heard)
    (held_advert (adverts_after_hearing_all adverts heard) origin)
held_newest adverts heard origin by below = search (rules, newest_after, newest_held)
