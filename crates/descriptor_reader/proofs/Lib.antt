pub mod ArgLaws
pub mod LoopLaws
pub mod MethodLaws
pub mod PrototypeLaws
pub mod SearchLaws
pub mod ViewLaws
