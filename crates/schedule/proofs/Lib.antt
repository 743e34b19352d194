pub mod ScheduleEventFields
pub mod ScheduleRowsInTurn
pub mod ScheduleHeaderFields
pub mod ScheduleSoundEvents
pub mod ScheduleKeywords
pub mod LoadCaseNetworks
pub mod LoadCaseDraws
