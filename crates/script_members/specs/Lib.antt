pub mod Remembered
