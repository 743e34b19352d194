pub mod NetworkTestPackets
pub mod SwitchTestTables
