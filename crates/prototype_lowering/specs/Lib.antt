pub mod Directory
pub mod Lowering
pub mod StaticTable
pub mod Limits
pub mod Numbering
pub mod Marked
pub mod Accepted
