pub mod ClientHellos
pub mod Hellos
pub mod ServerHellos
