pub mod Message
pub mod Hash
pub mod State
pub mod Saved
pub mod Report
