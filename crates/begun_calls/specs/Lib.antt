pub mod Calling
pub mod Machines
