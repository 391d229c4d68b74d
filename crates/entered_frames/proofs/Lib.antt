pub mod Entered
pub mod Names
