pub mod BaseTestTables
