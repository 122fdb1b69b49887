pub mod Absorb
pub mod Counting
pub mod Finish
pub mod Padding
pub mod Saving
