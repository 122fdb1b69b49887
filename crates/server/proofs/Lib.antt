pub mod Flights
pub mod Hellos
pub mod Values
