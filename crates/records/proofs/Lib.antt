pub mod Macs
pub mod Opening
pub mod Reading
pub mod Sealing
