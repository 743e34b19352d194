-- The newest advert of an origin (OSPF, RFC 2328, section 13.1).
use Rattle.std.specs.Prelude.{◌++◌, ◌∷◌, ◌≡◌, ◌≢◌, All, IsFalse, IsTrue, List, None, Option, Some, length, ℕ}
use Rattle.failover.specs.declared.advert.Advert.{Advert}
use Rattle.failover.specs.Adverts.{is_newer_advert, held_advert}

-- each advert is at the place of its origin, of 64
pub record AreAdvertsByOrigin (adverts : List (Option Advert)) : Type 0 where
  pub places : length adverts ≡ 64
  pub origins : (origin : ℕ) (advert : Advert) → held_advert adverts origin ≡ Some advert →
      advert.origin ≡ origin

-- the newest of these adverts of an origin, and of equally new ones the first; `None` if there are
-- none of that origin
abbrev pub IsNewestAdvert : ℕ → List Advert → Option Advert → Type 0
IsNewestAdvert origin adverts None = All (λ advert. advert.origin ≢ origin) adverts
IsNewestAdvert origin adverts (Some best) =
    (before : List Advert) × (after : List Advert) × (adverts ≡ before ++ best ∷ after)
    × (best.origin ≡ origin)
    × All (λ advert. advert.origin ≡ origin → IsTrue (is_newer_advert best advert)) before
    × All (λ advert. advert.origin ≡ origin → IsFalse (is_newer_advert advert best)) after
