pub mod Among
pub mod Depths
pub mod Kept
