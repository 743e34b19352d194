-- What proofs above cite: of records taken one after another.
pub use Rattle.csv_records.proofs.CsvRecordTaking.{over}
