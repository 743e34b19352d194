-- Why a step isn't taken.
use Rattle.update_machine.specs.Exports.{Failure, Refused}
use Rattle.world.specs.declared.error.Full.{Full}

-- no step begins, because the journal is full
abbrev pub no_world_step : Failure Full
no_world_step = Refused (record {})
