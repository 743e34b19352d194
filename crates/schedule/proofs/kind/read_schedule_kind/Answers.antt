use Rattle.std.proofs.Common.{◌∙◌, ap, sym}
use Rattle.base.proofs.Exports.{bytes_eq-Decides}
use Rattle.schedule.specs.Kinds.{schedule_kind_of, schedule_keyword_of}
use Rattle.schedule.proofs.ScheduleKeywords.{kind_back}
use Rattle.schedule.proofs.kind.read_schedule_kind.Goals as goal

pub returns-in-Some : goal.returns-in-Some
returns-in-Some c =
    let same = (bytes_eq-Decides (schedule_keyword_of c.in-Some.kind) c.args.text.now).0 c.in-Some.ensures in
    sym (kind_back c.in-Some.kind) ∙ ap schedule_kind_of same
