pub mod Alike
mod CallRows
mod EnterRows
mod ForwarderRows
pub mod Kept
pub mod Lawfulness
mod OutRows
mod RefusalRows
pub mod RowTables
pub mod Says
mod SightRows
pub mod Ways
