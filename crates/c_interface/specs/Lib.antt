pub mod Clients
pub mod Codes
pub mod Connections
pub mod Fields
pub mod Inner
pub mod Kept
pub mod Numbered
pub mod Records
