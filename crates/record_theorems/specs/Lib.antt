pub mod Series
pub mod Terms
pub mod Cutting
pub mod Over
pub mod Demand3
pub mod Claims
