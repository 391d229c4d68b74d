pub mod Answers
pub mod Links
pub mod Passing
pub mod Replying
