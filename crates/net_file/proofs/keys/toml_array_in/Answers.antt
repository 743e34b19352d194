use Rattle.std.proofs.Common.{refl}
use Rattle.net_file.proofs.NetFileValueItems.{items_list_view}
use Rattle.net_file.proofs.keys.toml_array_in.Goals as goal

pub returns-in-Some : goal.returns-in-Some
returns-in-Some c = rw (← c.in-Some.ensures, items_list_view, ← c.as_slice.ensures.value) refl
