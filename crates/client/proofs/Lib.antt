pub mod Exchanges
pub mod Hellos
pub mod Starts
