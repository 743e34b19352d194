-- A set of links between two different switches, as 64 masks: mask k has the greater numbers to
-- which k has a link in the set.
use Rattle.std.specs.Prelude.{◌&&◌, ◌<◌, ◌==◌, ◌||◌, ◌≡◌, Bool, IsTrue, List, length, slice_index, ℕ}
use Rattle.base.specs.Exports.{has}

-- each mask has only greater switches, so equal sets are equal lists
pub record IsFailoverDownLinkSet (links : List ℕ) : Type 0 where
  pub masks : length links ≡ 64
  pub above : (k x : ℕ) → IsTrue (has (slice_index links k) x) → k < x
  pub switches : (k x : ℕ) → IsTrue (has (slice_index links k) x) → x < 64

-- x and y are these two switches, in either order
abbrev pub is_failover_link_of : ℕ → ℕ → ℕ → ℕ → Bool
is_failover_link_of one other x y = ((x == one) && (y == other)) || ((x == other) && (y == one))
