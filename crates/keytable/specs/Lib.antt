pub mod Inner
pub mod Starts
pub mod Table
pub mod WellFormed
