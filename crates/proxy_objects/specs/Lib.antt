pub mod Forwarding
pub mod Handing
