pub mod Digits
pub mod Seen
pub mod Lists
pub mod Learned
pub mod Numbering
