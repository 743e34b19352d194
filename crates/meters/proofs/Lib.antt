pub mod MetersKept
mod MeterRecords
