pub mod Fits
pub mod Offsets
