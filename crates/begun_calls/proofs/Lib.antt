pub mod Begun
pub mod Entered
pub mod EnteredFrames
pub mod Pushed
pub mod TheObject
