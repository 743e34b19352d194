use Rattle.std.proofs.Common.{◌&&◌, ◌∙◌, ap, arith, bytes_eq, codes, sym}
use Rattle.csv.specs.Records.{fields_of}
use Rattle.csv_records.specs.Texts.{csv_field_or_empty}
use Rattle.schedule.proofs.ScheduleEventFields.{is_heading-two}
use Rattle.schedule.proofs.row.is_schedule_heading.Goals as goal

pub returns-then-csv_field_has_text : goal.returns-then-csv_field_has_text
returns-then-csv_field_has_text c = c.csv_field_has_text-then-csv_field_has_text.ensures
    ∙ sym (is_heading-two (fields_of c.args.fields.now) (omega arith)
    ∙ ap (λ first. first && bytes_eq (csv_field_or_empty (fields_of c.args.fields.now) 1)
    (codes "arguments")) (sym c.csv_field_has_text.ensures ∙ c.if-csv_field_has_text.true))
