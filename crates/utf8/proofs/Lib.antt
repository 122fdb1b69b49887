pub mod Characters
pub mod Ranges
