-- Windows: the table.
pub mod Windows
