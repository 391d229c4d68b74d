pub mod Objects
pub mod Recovered
pub mod SameWord
pub mod Thises
