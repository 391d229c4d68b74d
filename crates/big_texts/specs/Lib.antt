pub mod Files
pub mod Idl
pub mod Numbers
pub mod Pieces
pub mod Script
pub mod Summary
