pub mod Lines
pub mod Listing
pub mod Words
pub mod Writes
