pub mod Attributes
pub mod Meaning
pub mod Constants
pub mod Scopes
pub mod Faults
pub mod Order
pub mod Counted
pub mod Accepted
