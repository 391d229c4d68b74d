pub mod Classes
pub mod Parts
pub mod Spelling
pub mod Pieces
pub mod Tokens
pub mod Reading
