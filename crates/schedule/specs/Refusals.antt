-- Why a text isn't a schedule.
use Rattle.std.specs.Prelude.{ℕ}
use Rattle.schedule.specs.declared.error.ScheduleRefusal.{ScheduleRefusal}
use Rattle.schedule.specs.declared.error.ScheduleRefusal.TheVariants as why

-- the number of each refusal, as it is printed and documented
abbrev pub schedule_code : ScheduleRefusal → ℕ
schedule_code why.Header = 1
schedule_code why.Width = 2
schedule_code why.Kind = 3
schedule_code why.Switch = 4
schedule_code why.Number = 5
schedule_code why.Address = 6
schedule_code why.File = 7
schedule_code why.TooManyRows = 8
schedule_code why.NoLink = 9
