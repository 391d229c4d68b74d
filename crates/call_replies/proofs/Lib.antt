pub mod Acting
pub mod Found
pub mod Lawful
pub mod Looked
pub mod OwnCells
pub mod Planned
pub mod Plans
pub mod Replied
mod Rows
pub mod Spared
pub mod Steps
