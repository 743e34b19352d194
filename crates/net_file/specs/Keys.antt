-- The values of a TOML table: what is at a key, and the refusal of what is absent, of another type
-- or out of range.
use Rattle.std.specs.Prelude.{[], if◌then◌else◌, ◌&&◌, ◌∷◌, Err, List, None, Ok, Option, Result, Some, nat_le, negsuc, pos, ℕ, ℤ}
use Rattle.base.specs.Exports.{option_map_or}
use Rattle.toml.specs.Data.{Data, Items, no_items, item, Members, get_member}
use Rattle.net_file.specs.declared.error.NetRefusal.{NetRefusal}
use Rattle.net_file.specs.declared.error.NetRefusal.TheVariants as refusal

-- the items of an array as a list
abbrev pub toml_items_list : Items → List Data
toml_items_list no_items = []
toml_items_list (item d ds) = d ∷ toml_items_list ds

-- a value of the type, or the refusal of another type
abbrev pub net_value_of_type : {X : Type 0} → Option X → Result X NetRefusal
net_value_of_type (Some value) = Ok value
net_value_of_type None = Err refusal.WrongType

-- what a key's value is read as, or its default if the key is absent
abbrev pub net_value_at_key : {X : Type 0} → (Data → Result X NetRefusal) → Result X NetRefusal → Members
    → List ℕ
    → Result X NetRefusal
net_value_at_key read absent table key = option_map_or read (get_member key table) absent

-- the integer, if it lies from low to high
abbrev pub toml_integer_within : ℕ → ℕ → ℤ → Option ℕ
toml_integer_within low high (pos n) = if nat_le low n && nat_le n high then Some n else None
toml_integer_within low high (negsuc n) = None

-- an integer that must lie from low to high
abbrev pub toml_number_within : ℕ → ℕ → ℤ → Result ℕ NetRefusal
toml_number_within low high z = option_map_or Ok (toml_integer_within low high z) (Err refusal.Range)
