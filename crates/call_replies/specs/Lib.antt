pub mod Blocks
pub mod Items
pub mod Laws
pub mod Repliers
pub mod Reply
pub mod Writes
