pub mod Atoms
pub mod Lacking
pub mod Laws
pub mod Numerals
pub mod Parts
pub mod TextLines
