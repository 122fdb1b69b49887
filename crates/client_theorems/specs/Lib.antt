pub mod Claims
pub mod Completion
pub mod Exchange
pub mod Over
pub mod Series
pub mod Terms
