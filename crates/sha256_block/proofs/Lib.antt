pub mod Bits
pub mod Parse
pub mod Ring
pub mod Steps
