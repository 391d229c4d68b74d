pub mod Lacking
pub mod TextLines
