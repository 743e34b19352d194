-- Where packets are, as masks: bit i % 64 of the mask of i / 64 and a switch says that packet i is
-- at the switch. Masks of the same form say which of these masks have a bit.
use Rattle.std.specs.Prelude.{if◌then◌else◌, ◌%◌, ◌*◌, ◌+◌, ◌/◌, ◌<◌, ◌==◌, ◌≡◌, ◌≤◌, Bool, List, MatchOption, Option, false, length, not, slice_index_or, true, ℕ}
use Rattle.base.specs.Exports.{has}

-- the mask of the numbers of this block of 64 at the switch
abbrev pub traveller_mask_at : List ℕ → ℕ → ℕ → ℕ
traveller_mask_at masks block s = slice_index_or masks (block * 64 + s) 0

abbrev pub is_traveller_marked : List ℕ → ℕ → ℕ → Bool
is_traveller_marked masks i s = has (traveller_mask_at masks (i / 64) s) (i % 64)

-- one of the block's numbers is marked at the switch
abbrev pub has_traveller_marks : List ℕ → ℕ → ℕ → Bool
has_traveller_marks masks block s = not (traveller_mask_at masks block s == 0)

-- the second flag, flipped if the first one is true
abbrev pub traveller_mark_flipped_if : Bool → Bool → Bool
traveller_mark_flipped_if turns was = if turns then not was else was

-- no number from one up to another is marked at the switch
abbrev pub IsNoTravellerMarked : List ℕ → ℕ → ℕ → ℕ → Type 0
IsNoTravellerMarked masks switch from end = (i : ℕ) → from ≤ i → i < end → is_traveller_marked masks i switch ≡ false

-- the least number at or above `from` that is marked at the switch
abbrev pub IsLeastTravellerMarked : List ℕ → ℕ → ℕ → ℕ → Type 0
IsLeastTravellerMarked masks switch from least = (from ≤ least) × (is_traveller_marked masks least switch ≡ true)
    × IsNoTravellerMarked masks switch from least

-- the least number at or above `from` that is marked at the switch; `None` if there is none
abbrev pub IsNextTravellerMarked : List ℕ → ℕ → ℕ → Option ℕ → Type 0
IsNextTravellerMarked masks switch from next = MatchOption next
    ((i : ℕ) → from ≤ i → is_traveller_marked masks i switch ≡ false) (IsLeastTravellerMarked masks switch from)

-- that number, if it is in the block of `from`; `None` if there is none from there on in the block
abbrev pub IsNextTravellerInBlock : List ℕ → ℕ → ℕ → Option ℕ → Type 0
IsNextTravellerInBlock masks switch from next = MatchOption next
    (IsNoTravellerMarked masks switch from ((from / 64 + 1) * 64)) (IsLeastTravellerMarked masks switch from)

-- `above` marks the blocks that have marks, and has room for each
pub record AreTravellerBlockMarks (masks above : List ℕ) : Type 0 where
  pub marks : (block s : ℕ) → s < 64 → is_traveller_marked above block s ≡ has_traveller_marks masks block s
  pub room : (i : ℕ) → i + 64 ≤ length masks → i / 64 + 64 ≤ length above

-- the marks of packets, of their blocks, and of the blocks of these
pub record AreTravellerMarkLevels (packets blocks groups : List ℕ) : Type 0 where
  pub low : AreTravellerBlockMarks packets blocks
  pub high : AreTravellerBlockMarks blocks groups
