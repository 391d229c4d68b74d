pub mod Frames
pub mod InParts
pub mod Passed
pub mod Replied
pub mod Stops
pub mod Ways
pub mod Whole
