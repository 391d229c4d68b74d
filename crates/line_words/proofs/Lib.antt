pub mod Choices
pub mod Eaches
pub mod Marks
pub mod Prefixes
