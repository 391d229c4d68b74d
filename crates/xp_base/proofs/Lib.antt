pub mod ByteDigits
pub mod Gains
pub mod Lengths
pub mod LittleEndian
pub mod Naturals
