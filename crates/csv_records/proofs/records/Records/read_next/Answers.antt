use Rattle.std.proofs.Common.{[], ◌∙◌, ◌≡◌, ap, cond, not, subst, sym}
use Rattle.csv.specs.Records.{fields_of}
use Rattle.csv_records.specs.Readers.{csv_records_left}
use Rattle.csv_records.specs.Texts.{TakesCsvRecord}
use Rattle.csv_records.proofs.CsvRecordTaking.{source_known, takes_next}
use Rattle.csv_records.proofs.records.Records.read_next.Goals as goal

pub returns-in-Ok-clause-takes : goal.returns-in-Ok-clause-takes
returns-in-Ok-clause-takes c =
    let old = c.self.inside.reader in
    let new = c.read_byte_record.new.self in
    let found = c.in-Ok.found in
    let fields = fields_of c.read_byte_record.new.row in
    let r = c.self.invariant c.if-self.false in
    let (xs, source) = source_known old r.going in
    let left : csv_records_left old ≡ c.args.self.now = ap (λ over. cond over [] (csv_records_left old))
    (sym c.if-self.false) ∙ c.self.view_is in
    subst (λ before. TakesCsvRecord before found fields (cond (not found) [] (csv_records_left new))) left
    (takes_next old new found fields xs r.config source (c.in-Ok.ensures.reads r.trim r.ready))
