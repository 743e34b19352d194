-- What adverts say, whatever happened, in any order: they name only links of the network, and no
-- switch hears an advert of itself that is newer than what it sends. An OSPF router that forgot its
-- sequence number may (RFC 2328, section 13.4); boot numbers, which never repeat, prevent it here.
use Rattle.std.specs.Prelude.{[], ◌<◌, ◌∷◌, ◌≡◌, ◌≤◌, ◌⊎◌, All, IsTrue, List, Some, ℕ, ⊤}
use Rattle.failover.specs.Exports.{AreJoinedByFailoverLinks, is_newer_advert}
use Rattle.base.specs.Exports.{has}
use Rattle.update_machine.specs.Exports.{Advert, Item, Net, Setting, journal_advert_known, machine_advert_to, journal_adverts_heard, journal_boot_of, is_up, journal_links_known, journal_message_of, near, own_advert, journal_route_from}
use Rattle.steps.specs.Exports.{StepLinkExists, StepSwitchExists}

-- ---- all adverts of a journal

-- true of each advert that was sent, and of each that a switch heard in its boot, has or makes
pub record AllControlAdverts (setting : Setting) (journal : List Item) (Holds : Advert → Type 0)
    : Type 0 where
  pub sent : (n s : ℕ) (advert : Advert) → journal_message_of journal n ≡ Some (machine_advert_to s advert) →
      Holds advert
  pub heard : (s : ℕ) → All Holds (journal_adverts_heard journal s)
  pub held : (s origin : ℕ) (advert : Advert) → origin < 64 →
      journal_advert_known setting journal s origin ≡ Some advert → Holds advert
  pub own : (s : ℕ) → Holds (own_advert setting journal s)

-- ---- links of the network

-- the advert names only switches that the network links to its origin
abbrev pub ControlAdvertNamesLinks : Net → Advert → Type 0
ControlAdvertNamesLinks net advert = (k : ℕ) → IsTrue (has advert.up k) → StepLinkExists net advert.origin k

-- the route continues from the switch over links of the network
abbrev pub ControlRouteFollowsLinks : Net → ℕ → List ℕ → Type 0
ControlRouteFollowsLinks net at [] = ⊤
ControlRouteFollowsLinks net at (next ∷ route) = StepLinkExists net at next × ControlRouteFollowsLinks net next route

abbrev pub IsControlRouteOverLinks : Net → List ℕ → Type 0
IsControlRouteOverLinks net [] = ⊤
IsControlRouteOverLinks net (first ∷ route) = ControlRouteFollowsLinks net first route

-- all adverts name only links of the network, so known links are links of it, and routes use these
pub record ControlAdvertisedLinksAreThere (setting : Setting) (journal : List Item) : Type 0 where
  pub adverts : AllControlAdverts setting journal (ControlAdvertNamesLinks setting.net)
  pub usable : (s k : ℕ) → IsTrue (has (near setting journal s) k) → StepLinkExists setting.net s k
  pub known : (s one other : ℕ) (down : List ℕ) → one < 64 → other < 64 →
      AreJoinedByFailoverLinks (journal_links_known setting journal s down) one other → StepLinkExists setting.net one other
  pub routes : (s : ℕ) (targets down route : List ℕ) →
      journal_route_from setting journal s targets down ≡ Some route → IsControlRouteOverLinks setting.net route

-- ---- own adverts

-- the advert's boot is at most its origin's present one; and while the origin is up, the advert is
-- the origin's own or older than that
pub record IsNoNewerControlAdvert (setting : Setting) (journal : List Item) (advert : Advert) : Type 0 where
  pub boot : advert.boot ≤ journal_boot_of journal advert.origin
  pub own : IsTrue (is_up journal advert.origin) →
      (advert ≡ own_advert setting journal advert.origin)
      ⊎ IsTrue (is_newer_advert (own_advert setting journal advert.origin) advert)

-- no advert is newer than its origin's own
abbrev pub ControlOwnAdvertsAreNewest : Setting → List Item → Type 0
ControlOwnAdvertsAreNewest setting journal = AllControlAdverts setting journal (IsNoNewerControlAdvert setting journal)

-- ---- adverts of the network's switches

-- the origin of each advert is a switch of the network, whatever sent it; the advert that a switch
-- of the network has for an origin's number is from that origin
pub record ControlAdvertsAreOfSwitches (setting : Setting) (journal : List Item) : Type 0 where
  pub sent : (n s : ℕ) (advert : Advert) → journal_message_of journal n ≡ Some (machine_advert_to s advert) →
      StepSwitchExists setting.net advert.origin
  pub heard : (s : ℕ) →
      All (λ (advert : Advert). StepSwitchExists setting.net advert.origin) (journal_adverts_heard journal s)
  pub held : (s origin : ℕ) (advert : Advert) → StepSwitchExists setting.net s → origin < 64 →
      journal_advert_known setting journal s origin ≡ Some advert →
      StepSwitchExists setting.net origin × (advert.origin ≡ origin)
