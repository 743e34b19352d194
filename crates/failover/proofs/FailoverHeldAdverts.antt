-- What a database holds.
use Rattle.std.proofs.Common.{◌&&◌, ◌<◌, ◌∙◌, ◌≡◌, ◌≢◌, ◌⊎◌, Bool, List, None, Option, Some, ap, arith, cond, false, get_or-set_other, get_or-set_same, inl, inr, length-set, map, nat_lt, refl, set, subst, sym, true, ℕ, rules}
use Rattle.base.proofs.Exports.{cases_eq, cases_lt, get_or-map-range_with_len, get_or-replicate, get_or_past, length-map-range_with_len, length-replicate, nat_tests}
use Rattle.failover.specs.declared.advert.Advert.{Advert}
use Rattle.base.specs.Exports.{switches}
use Rattle.failover.specs.Exports.{AreAdvertsByOrigin, adverts_after_hearing, first_adverts, first_failover_advert_below, held_advert, is_advert_news, no_adverts}

-- an advert at the place of its origin
set_by_origin : (adverts : List (Option Advert)) (advert : Advert) → AreAdvertsByOrigin adverts →
    advert.origin < 64 → (origin : ℕ) (found : Advert) →
    held_advert (set adverts advert.origin (Some advert)) origin ≡ Some found → found.origin
    ≡ origin
set_by_origin adverts advert by fits origin found e =
    search (rules, cases_eq, get_or-set_same, get_or-set_other)

pub by_origin-set : (adverts : List (Option Advert)) (advert : Advert) → AreAdvertsByOrigin adverts →
    advert.origin < 64 → AreAdvertsByOrigin (set adverts advert.origin (Some advert))
by_origin-set adverts advert by fits = search (rules, length-set, set_by_origin)

pub by_origin-none : AreAdvertsByOrigin no_adverts
by_origin-none = record {
  places = length-replicate {A = Option Advert} 64 None;
  origins = λ origin found e. elim (cases_lt origin 64) [
    | inl below ↦ (let none : held_advert no_adverts origin ≡ None =
        get_or-replicate 64 origin None None below in cc)
    | inr past ↦ (let none : held_advert no_adverts origin ≡ None =
        get_or_past no_adverts origin None past in cc)
  ];
}

first_of_origin : (test : Bool) (first : Advert) (found : Advert) →
    cond test (Some first) None ≡ Some found → found ≡ first
first_of_origin true first found e = cc
first_of_origin false first found e = cc

pub held-first : (near : List ℕ) (count origin : ℕ) → origin < 64 →
    held_advert (first_adverts near count) origin ≡ first_failover_advert_below near count origin
unfolding first_adverts switches
held-first near count origin below =
    get_or-map-range_with_len (first_failover_advert_below near count) 0 64 origin origin None below (omega arith)

pub by_origin-first : (near : List ℕ) (count : ℕ) → AreAdvertsByOrigin (first_adverts near count)
unfolding first_adverts switches
by_origin-first near count = record {
  places = length-map-range_with_len (first_failover_advert_below near count) 0 64;
  origins = λ origin found e. elim (cases_lt origin 64) [
    | inl below ↦ ap (λ (a : Advert). a.origin) (first_of_origin (nat_lt origin count) _ found
        (sym (held-first near count origin below) ∙ e))
    | inr past ↦ (let none : held_advert (map (first_failover_advert_below near count) switches) origin ≡ None =
        get_or_past (map (first_failover_advert_below near count) switches) origin None
        (omega (arith, length-map-range_with_len (first_failover_advert_below near count) 0 64)) in cc)
  ];
}

pub after_no_news : (adverts : List (Option Advert)) (advert : Advert) →
    is_advert_news adverts advert ≡ false → adverts_after_hearing adverts advert ≡ adverts
unfolding adverts_after_hearing
after_no_news adverts advert old = rw old refl

pub after_news : (adverts : List (Option Advert)) (advert : Advert) → is_advert_news adverts advert ≡ true
    → adverts_after_hearing adverts advert ≡ set adverts advert.origin (Some advert)
unfolding adverts_after_hearing
after_news adverts advert new = rw new refl

-- ---- one advert heard

-- heard or not
pub hearing : (adverts : List (Option Advert)) (advert : Advert) → ((is_advert_news adverts advert ≡ true)
    × (adverts_after_hearing adverts advert ≡ set adverts advert.origin (Some advert)))
    ⊎ ((is_advert_news adverts advert ≡ false) × (adverts_after_hearing adverts advert ≡ adverts))
hearing adverts advert = search (rules, after_news, after_no_news)

below_test : (origin : ℕ) (more : Bool) → (nat_lt origin 64 && more) ≡ true → origin < 64
below_test origin more h = grind (arith, nat_tests)

news_below : (adverts : List (Option Advert)) (advert : Advert) → is_advert_news adverts advert ≡ true →
    advert.origin < 64
unfolding is_advert_news
news_below adverts advert h = below_test advert.origin _ h

pub by_origin-hearing : (adverts : List (Option Advert)) (advert : Advert) → AreAdvertsByOrigin adverts →
    AreAdvertsByOrigin (adverts_after_hearing adverts advert)
by_origin-hearing adverts advert by = elim (hearing adverts advert) [
  | inl news ↦ rw news.1 (by_origin-set adverts advert by (news_below adverts advert news.0))
  | inr old ↦ subst AreAdvertsByOrigin (sym old.1) by
]

pub held_heard : (adverts : List (Option Advert)) (advert : Advert) → AreAdvertsByOrigin adverts →
    is_advert_news adverts advert ≡ true → held_advert (adverts_after_hearing adverts advert) advert.origin
    ≡ Some advert
held_heard adverts advert by news = search (rules, after_news, get_or-set_same, news_below)

pub held_others : (adverts : List (Option Advert)) (advert : Advert) (origin : ℕ) → origin
    ≢ advert.origin → held_advert (adverts_after_hearing adverts advert) origin ≡ held_advert adverts origin
held_others adverts advert origin apart = elim (hearing adverts advert) [
  | inl news ↦ ap (λ (all : List (Option Advert)). held_advert all origin) news.1
      ∙ get_or-set_other adverts advert.origin origin (Some advert) None apart
  | inr old ↦ ap (λ (all : List (Option Advert)). held_advert all origin) old.1
]
