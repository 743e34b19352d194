-- What switches with a usable link between them send each other. That adverts reach all switches
-- is the reliable flooding of OSPF (RFC 2328, section 13); acknowledgements are not needed here,
-- because a quiet network lost nothing that matters.
use Rattle.std.specs.Prelude.{◌<◌, ◌≡◌, ◌⊎◌, Contains, IsFalse, IsTrue, List, Some, ℕ}
use Rattle.failover.specs.Exports.{is_newer_advert}
use Rattle.update_machine.specs.Exports.{Advert, Item, Setting, journal_advert_known, machine_advert_to, journal_boot_of, near, machine_sendings}
use Rattle.base.specs.Exports.{has}

-- the advert has the same origin, and is at least as new
pub record IsConvergenceAdvertAsNew (advert than : Advert) : Type 0 where
  pub origin : advert.origin ≡ than.origin
  pub new : IsFalse (is_newer_advert than advert)

-- the switch has an advert that is at least as new
pub record HoldsConvergenceAdvertAsNew (setting : Setting) (journal : List Item) (s : ℕ) (than : Advert)
    : Type 0 where
  pub advert : Advert
  pub held : journal_advert_known setting journal s than.origin ≡ Some advert
  pub as_new : IsConvergenceAdvertAsNew advert than

-- an advert that is at least as new was sent to the switch in its present boot
pub record NeighbourIsSentConvergenceNews (journal : List Item) (s : ℕ) (than : Advert) : Type 0 where
  pub number : ℕ
  pub advert : Advert
  pub sent : Contains (machine_sendings journal)
      (record { number = number; message = machine_advert_to s advert; boot = journal_boot_of journal s })
  pub as_new : IsConvergenceAdvertAsNew advert than

-- over a usable link each end has adverts at least as new as those of the other end, or was sent
-- such adverts in its present boot
abbrev pub ConvergenceNewsSpreads : Setting → List Item → Type 0
ConvergenceNewsSpreads setting journal = (s neighbour origin : ℕ) (advert : Advert)
    → IsTrue (has (near setting journal s) neighbour) → origin < 64
    → journal_advert_known setting journal s origin ≡ Some advert
    → HoldsConvergenceAdvertAsNew setting journal neighbour advert ⊎ NeighbourIsSentConvergenceNews journal neighbour advert

-- over a usable link each end has adverts at least as new as those of the other end
abbrev pub ConvergenceNeighboursAgree : Setting → List Item → Type 0
ConvergenceNeighboursAgree setting journal = (s neighbour origin : ℕ) (advert : Advert)
    → IsTrue (has (near setting journal s) neighbour) → origin < 64
    → journal_advert_known setting journal s origin ≡ Some advert
    → HoldsConvergenceAdvertAsNew setting journal neighbour advert
