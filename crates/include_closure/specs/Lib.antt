pub mod Names
pub mod FileFaults
pub mod Closure
pub mod Counts
pub mod Steps
