pub mod TableIfaces
pub mod Elements
pub mod Lengths
pub mod Numbers
pub mod Positions
