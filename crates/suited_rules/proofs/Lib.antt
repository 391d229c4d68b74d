pub mod Descent
pub mod Numbers
pub mod Suited
pub mod Suits
