pub mod JournalLineGains
pub mod JournalLineMasks
mod JournalLineTexts
pub mod JournalLineLengths
