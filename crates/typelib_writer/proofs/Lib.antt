pub mod FitFacts
pub mod Parts
