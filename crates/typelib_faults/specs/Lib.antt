pub mod Bytes
pub mod Causes
pub mod Climbs
pub mod Faults
pub mod Laws
pub mod Places
pub mod Reached
pub mod Walk
