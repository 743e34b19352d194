mod InputAuditReads
mod InputBegunNetwork
mod InputCalmReads
pub mod InputFileChecks
mod InputFileReads
mod InputRefusedNames
mod InputShelfReads
