pub mod Frames
pub mod Registers
