pub mod Extensions
pub mod Parts
