pub mod Begun
pub mod Having
pub mod Made
