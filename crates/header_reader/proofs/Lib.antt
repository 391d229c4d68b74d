pub mod Fits
pub mod LineForms
pub mod Lists
pub mod NameSets
pub mod Outcomes
pub mod Parts
pub mod Refusals
