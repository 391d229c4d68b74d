pub mod Conforming
pub mod CoreRegisters
pub mod Counted
pub mod Lineages
pub mod Patterns
pub mod PlacedFrames
pub mod TheFrame
