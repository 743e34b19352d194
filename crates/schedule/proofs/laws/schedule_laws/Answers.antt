use Rattle.csv_records.specs.Texts.{csv_records_of}
use Rattle.schedule.specs.Reading.{schedule_of}
use Rattle.schedule.proofs.ScheduleSoundEvents.{text_sound}
use Rattle.schedule.proofs.laws.schedule_laws.Goals as goal

pub returns : goal.returns
unfolding schedule_of
returns c = record {
  sound = λ net files bytes events is. text_sound net files (csv_records_of bytes) events is;
}
