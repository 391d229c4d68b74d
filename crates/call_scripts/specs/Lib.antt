pub mod Lines
pub mod Reading
pub mod Spellings
pub mod Texts
