-- How long a schedule may be.
use Rattle.std.specs.Prelude.{ℕ}

-- the most events of a schedule
abbrev pub max_events : ℕ
max_events = 100_000
