-- The current mark rises only once all members have the tables, as the first phase of an update
-- requires (Reitblatt, Foster, Rexford, Schlesinger and Walker, "Abstractions for Network Update").
use Rattle.std.specs.Prelude.{List, ⊤}
use Rattle.update_machine.specs.Exports.{Item, MachineCurrentMayRise, Setting}
use Rattle.journal.specs.declared.item.Item.TheVariants as item

-- the cause of a rise of the current mark
abbrev pub ControlMarkRiseHasCause : Setting → List Item → Item → Type 0
ControlMarkRiseHasCause setting before (item.Current version) = MachineCurrentMayRise setting before version
ControlMarkRiseHasCause setting before _ = ⊤
