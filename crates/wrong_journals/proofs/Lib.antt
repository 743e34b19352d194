pub mod WrongJournalMachine
pub mod WrongJournalMatches
pub mod WrongJournalMoves
pub mod WrongJournalNoRuns
pub mod WrongJournalCauses
pub mod WrongJournalRuns
