pub mod Lawful
pub mod Trees
