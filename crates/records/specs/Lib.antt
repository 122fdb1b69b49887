pub mod Record
pub mod Protection
pub mod Joining
