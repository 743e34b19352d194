-- Why a text states no network.
use Rattle.std.specs.Prelude.{if◌then◌else◌, Bool, Err, Ok, Result, ℕ}
use Rattle.net_file.specs.declared.error.NetRefusal.{NetRefusal}
use Rattle.net_file.specs.declared.error.NetRefusal.TheVariants as refusal

-- the codes of the refusals
abbrev pub net_code : NetRefusal → ℕ
net_code refusal.Toml = 1
net_code refusal.MissingKey = 2
net_code refusal.WrongType = 3
net_code refusal.Range = 4
net_code refusal.UnknownName = 5
net_code refusal.DuplicateName = 6
net_code refusal.DuplicatePort = 7
net_code refusal.SelfLink = 8
net_code refusal.DuplicateLink = 9
net_code refusal.TooMany = 10

-- what follows from a value, or the refusal if there is no value
abbrev pub with_toml_value : {X Y E : Type 0} → Result X E → (X → Result Y E) → Result Y E
with_toml_value (Ok value) next = next value
with_toml_value (Err refusal) next = Err refusal

-- what follows, if the condition is true; otherwise the refusal
abbrev pub require_net_value : {Y E : Type 0} → Bool → E → Result Y E → Result Y E
require_net_value holds refusal next = if holds then next else Err refusal
