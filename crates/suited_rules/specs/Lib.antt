pub mod Laws
pub mod Suiting
