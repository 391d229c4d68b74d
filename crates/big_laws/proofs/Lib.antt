pub mod Below
pub mod Lawful
pub mod Lexed
pub mod Lexemes
pub mod Limits
pub mod Listed
pub mod Meant
pub mod Scripted
