pub mod Cells
pub mod Frames
pub mod Heap
pub mod Layout
pub mod Lends
pub mod Memory
pub mod WellFormed
pub mod Widths
