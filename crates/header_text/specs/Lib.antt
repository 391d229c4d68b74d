pub mod Types
pub mod Order
pub mod Header
pub mod Meaning
pub mod PlacesText
pub mod Placeable
pub mod Marks
pub mod Parts
