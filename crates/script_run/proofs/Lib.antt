pub mod Called
pub mod Coming
pub mod Quietly
pub mod Ready
pub mod Runs
pub mod Scripts
pub mod Settling
pub mod Told
