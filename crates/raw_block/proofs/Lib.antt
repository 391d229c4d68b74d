pub mod Places
pub mod Deeds
pub mod Words
