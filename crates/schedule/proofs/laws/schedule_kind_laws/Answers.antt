use Rattle.schedule.proofs.ScheduleKeywords.{kind_back, keyword_back}
use Rattle.schedule.proofs.laws.schedule_kind_laws.Goals as goal

pub returns : goal.returns
returns c = record { kind = kind_back; keyword = keyword_back }
