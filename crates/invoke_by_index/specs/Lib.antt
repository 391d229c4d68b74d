pub mod Arguments
pub mod Calls
pub mod Cells
pub mod Methods
pub mod Ranges
