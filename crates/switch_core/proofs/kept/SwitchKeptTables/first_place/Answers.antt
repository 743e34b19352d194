use Rattle.std.proofs.Common.{rules}
use Rattle.switch_core.proofs.SwitchOwnLookups.{IsOwnFirst, own_first, same_place}
use Rattle.switch_core.proofs.kept.SwitchKeptTables.first_place.Goals as goal
use Rattle.switch_core.proofs.kept.SwitchKeptTables.first_place.Goals.{After-first}

found : (c : After-first) → IsOwnFirst c.args.self.now c.args.partition c.args.header.now
    c.first.result
found c = search (rules, own_first)

pub unwrap-place-requires : goal.unwrap-place-requires
unwrap-place-requires c = rw ((found c).place)

pub returns-clause-place : goal.returns-clause-place
returns-clause-place c =
    same_place c.unwrap-place.result c.first.result _ c.unwrap-place.ensures (found c.before).place
