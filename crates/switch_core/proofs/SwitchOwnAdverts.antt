-- The own advert of a switch among those that it holds: its newest, so that the next one is news.
use Rattle.std.proofs.Common.{◌&&◌, ◌+◌, ◌<◌, ◌==◌, ◌||◌, ◌≡◌, ◌≢◌, Bool, List, None, Option, Some, arith, false, get_or-set_same, inl, inr, length-set, nat_lt, set, true, ℕ, rules}
use Rattle.base.proofs.Exports.{cases_lt, get_or-replicate, get_or_past, nat_tests}
use Rattle.failover.specs.declared.advert.Advert.{Advert}
use Rattle.failover.specs.Exports.{adverts_after_hearing, held_advert, is_advert_news, no_adverts}
use Rattle.failover.proofs.FailoverHeldAdverts.{held_others}
use Rattle.failover.proofs.FailoverNewestAdvert.{not_newer}
use Rattle.switch_core.specs.Exports.{HasSwitchAdvertUpTo, SwitchValue, is_news_to_switch, own_advert}

-- ---- by the numbers alone

newer_next : (boot seq other_boot other_seq : ℕ) →
    (nat_lt boot other_boot || ((boot == other_boot) && nat_lt seq other_seq)) ≡ false →
    (nat_lt other_boot boot || ((other_boot == boot) && nat_lt other_seq (seq + 1))) ≡ true
newer_next boot seq other_boot other_seq h = grind (arith, nat_tests)

below_then : (number : ℕ) (more : Bool) → number < 64 → more ≡ true →
    (nat_lt number 64 && more) ≡ true
below_then number more below is = grind (arith, nat_tests)

-- ---- what is held

-- none of its own is held where none is held at all
pub own_none : (number boot seq : ℕ) → HasSwitchAdvertUpTo no_adverts number boot seq
own_none number boot seq advert is = elim (cases_lt number 64) [
  | inl below ↦ (let none : held_advert no_adverts number ≡ None =
      get_or-replicate 64 number None None below in cc)
  | inr past ↦ (let none : held_advert no_adverts number ≡ None =
      get_or_past no_adverts number None past in cc)
]

-- the next advert of its own is news
pub next_is_news : (adverts : List (Option Advert)) (number boot seq up : ℕ) → number < 64 →
    HasSwitchAdvertUpTo adverts number boot seq →
    is_advert_news adverts (own_advert number boot (seq + 1) up) ≡ true
unfolding is_advert_news
next_is_news adverts number boot seq up below own = search (rules, below_then, newer_next)

-- once it is held, none is newer
pub own_next : (adverts : List (Option Advert)) (number boot seq up : ℕ) →
    HasSwitchAdvertUpTo (set adverts number (Some (own_advert number boot seq up))) number boot seq
own_next adverts number boot seq up advert is =
    search (rules, get_or-set_same, not_newer, length-set, get_or_past)

-- an advert of another switch leaves it as it is
pub own_others : (adverts : List (Option Advert)) (advert : Advert) (number boot seq : ℕ) →
    number ≢ advert.origin → HasSwitchAdvertUpTo adverts number boot seq →
    HasSwitchAdvertUpTo (adverts_after_hearing adverts advert) number boot seq
own_others adverts advert number boot seq other own held_one is = search (rules, held_others)

-- news is of another switch
pub news_is_of_another : (s : SwitchValue) (advert : Advert) → is_news_to_switch s advert ≡ true →
    s.number ≢ advert.origin
unfolding is_news_to_switch
news_is_of_another s advert news same = search (rules, nat_tests)
