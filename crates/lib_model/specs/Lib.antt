pub mod Denotes
pub mod Emit
pub mod Table
pub mod Valid
