pub mod Tables
pub mod Bindings
pub mod Views
pub mod Parameters
pub mod States
