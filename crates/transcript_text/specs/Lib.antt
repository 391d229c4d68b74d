pub mod Outs
pub mod Refusals
pub mod Texts
