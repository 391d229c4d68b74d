pub mod Causes
pub mod Digits
pub mod Files
pub mod LittleEndian
pub mod MemoryObjects
pub mod Written
