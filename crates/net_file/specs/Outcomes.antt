-- What a reader of a part of the text returns.
use Rattle.std.specs.Prelude.{◌≡◌, Err, List, Ok, Result, map}
use Rattle.base.specs.Exports.{Bor}
use Rattle.toml.specs.Data.{Data}
use Rattle.toml.specs.View.{view}
use Rattle.toml.specs.declared.value.Value.{Value}
use Rattle.net_file.specs.declared.error.NetRefusal.{NetRefusal}

-- a result as it is defined: the value, as contracts see it, or the same refusal
abbrev pub IsNetRowRead : {X Y : Type 0} → (Y → X) → Result X NetRefusal → Result Y NetRefusal → Type 0
IsNetRowRead seen read (Ok value) = read ≡ Ok (seen value)
IsNetRowRead seen read (Err refusal) = read ≡ Err refusal

-- what contracts see of an array's values
abbrev pub toml_seen_values : Bor (List Value) → List Data
toml_seen_values values = map view values.now
