-- An index of a policy's rows: which are in the same slot, and which are compared with a header.
use Rattle.std.specs.Prelude.{if◌then◌else◌, ◌%◌, ◌&&◌, ◌*◌, ◌+◌, ◌/◌, ◌<◌, ◌==◌, ◌^◌, ◌≡◌, ◌≢◌, ◌≤◌, All, Bool, Contains, List, MatchOption, None, Option, Some, length, nat_lt, slice_get, true, ℕ}
use Rattle.base.specs.Exports.{option_map_or, position_or_len}
use Rattle.update_machine.specs.Exports.{Drop, Fields, Hit, Row}
use Rattle.policy_rules.specs.Exports.{policy_hit_of, policy_row_matches}
use Rattle.trace_audit.specs.declared.index.AuditIndex.{AuditIndex}
use Rattle.trace_audit.specs.declared.index.Shape.{Shape}

-- ---- shapes

abbrev pub audit_shape_of_row : Row → Shape
audit_shape_of_row row = record { src = row.src.len; dst = row.dst.len }

abbrev pub is_audit_index_shape : Shape → Shape → Bool
is_audit_index_shape shape other = other.src == shape.src && other.dst == shape.dst

-- the place of the row's shape among the shapes
abbrev pub audit_shape_place : List Shape → Row → ℕ
audit_shape_place shapes row = position_or_len (is_audit_index_shape (audit_shape_of_row row)) shapes

abbrev pub HasAuditShape : List Shape → Row → Type 0
HasAuditShape shapes row = audit_shape_place shapes row < length shapes

pub record IsSoundAuditShape (shape : Shape) : Type 0 where
  pub src : shape.src ≤ 32
  pub dst : shape.dst ≤ 32

-- the shapes after one more was added, unless it was among them
pub record AuditIndexNotes (before : List Shape) (shape : Shape) (after : List Shape) : Type 0 where
  pub there : position_or_len (is_audit_index_shape shape) after < length after
  pub kept : (row : Row) → HasAuditShape before row → HasAuditShape after row
  pub sound : IsSoundAuditShape shape → All IsSoundAuditShape before → All IsSoundAuditShape after

-- the shapes are sound, and that of each row is among them
pub record AreAuditShapesOf (rows : List Row) (shapes : List Shape) : Type 0 where
  pub sound : All IsSoundAuditShape shapes
  pub there : All (HasAuditShape shapes) rows

-- ---- slots

-- a hash of 32 bits of both addresses
abbrev pub audit_index_mixed_of : ℕ → ℕ → ℕ
audit_index_mixed_of src dst = (src * 2654435769 % 2 ^ 32 + dst * 2246822519 % 2 ^ 32) % 2 ^ 32

-- the slot of blocks that begin with these addresses: each of this many shapes has an equal share
-- of 4,096 slots, and the slot is in the share of the shape at this place
abbrev pub audit_index_slot_of : ℕ → ℕ → ℕ → ℕ → ℕ
audit_index_slot_of shapes place src dst = place * (4096 / shapes) + audit_index_mixed_of src dst * (4096 / shapes) / 2 ^ 32

abbrev pub audit_slot_of_row : List Shape → Row → ℕ
audit_slot_of_row shapes row =
    audit_index_slot_of (length shapes) (audit_shape_place shapes row) row.src.address row.dst.address

-- none of the rows from place `from` on and before `bound` is in the slot
abbrev pub AuditRowsLackSlot : List Shape → List Row → ℕ → ℕ → ℕ → Type 0
AuditRowsLackSlot shapes rows slot from bound = (k : ℕ) (row : Row) → from ≤ k → k < bound
    → slice_get rows k ≡ Some row → audit_slot_of_row shapes row ≢ slot

-- the place of the last row before the bound that is in the slot; none if no row is
abbrev pub IsAuditRowLastBefore : List Shape → List Row → ℕ → ℕ → Option ℕ → Type 0
IsAuditRowLastBefore shapes rows slot bound None = AuditRowsLackSlot shapes rows slot 0 bound
IsAuditRowLastBefore shapes rows slot bound (Some place) = (row : Row) × (place < bound)
    × (slice_get rows place ≡ Some row) × (audit_slot_of_row shapes row ≡ slot)
    × AuditRowsLackSlot shapes rows slot (place + 1) bound

-- the index has the rows before this bound
pub record IsAuditIndexUpTo (rows : List Row) (bound : ℕ) (index : AuditIndex) : Type 0 where
  pub shapes : AreAuditShapesOf rows index.shapes.items
  pub slots : length index.last.items ≡ 4096
  pub last : (slot : ℕ) (at : Option ℕ) → slice_get index.last.items slot ≡ Some at
      → IsAuditRowLastBefore index.shapes.items rows slot bound at
  pub places : length index.earlier.items ≡ bound
  pub earlier : (k : ℕ) (row : Row) (at : Option ℕ) → slice_get rows k ≡ Some row
      → slice_get index.earlier.items k ≡ Some at
      → IsAuditRowLastBefore index.shapes.items rows (audit_slot_of_row index.shapes.items row) k at

abbrev pub IsAuditIndexOf : List Row → AuditIndex → Type 0
IsAuditIndexOf rows index = IsAuditIndexUpTo rows (length rows) index

-- ---- the best of some rows

-- the hit is a matching row's, or the default
abbrev pub IsAuditMatchIn : List Row → Fields → Hit → Type 0
IsAuditMatchIn rows fields hit = MatchOption hit.rule (hit.action ≡ Drop)
    (λ priority. (row : Row) × Contains rows row × (policy_row_matches row fields ≡ true)
    × (row.priority ≡ priority) × (row.action ≡ hit.action))

-- the row has no greater priority than the hit
abbrev pub IsNoHigherAuditRow : Hit → Row → Type 0
IsNoHigherAuditRow hit row = MatchOption hit.rule ⊥ (λ priority. row.priority ≤ priority)

-- the better of the row, if it matches, and the hit
abbrev pub audit_better_index_hit : Row → Fields → Hit → Hit
audit_better_index_hit row fields hit =
    if option_map_or (λ priority. nat_lt priority row.priority) hit.rule true
    && policy_row_matches row fields then policy_hit_of (Some row) else hit

-- the hit is at least as good as the first one and as each matching row of the slot
pub record IsBetterAuditHit (shapes : List Shape) (rows : List Row) (slot : ℕ) (fields : Fields)
    (first hit : Hit) : Type 0 where
  pub matching : IsAuditMatchIn rows fields first → IsAuditMatchIn rows fields hit
  pub kept : (row : Row) → IsNoHigherAuditRow first row → IsNoHigherAuditRow hit row
  pub reached : (k : ℕ) (row : Row) → slice_get rows k ≡ Some row
      → audit_slot_of_row shapes row ≡ slot → policy_row_matches row fields ≡ true → IsNoHigherAuditRow hit row

-- a matching row's hit, or the default; no matching row has a greater priority
pub record IsBestAuditHit (rows : List Row) (fields : Fields) (hit : Hit) : Type 0 where
  pub matching : IsAuditMatchIn rows fields hit
  pub reached : All (λ row. policy_row_matches row fields ≡ true → IsNoHigherAuditRow hit row) rows
