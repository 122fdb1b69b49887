pub mod Functions
pub mod Constants
pub mod Block
pub mod Blocks
