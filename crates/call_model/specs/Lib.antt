pub mod Laws
pub mod Placement
pub mod Prototype
pub mod Tables
pub mod Types
pub mod Values
pub mod Walks
