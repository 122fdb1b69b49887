pub mod Decisions
pub mod Fates
pub mod Flights
pub mod Refusals
pub mod Series
pub mod Settling
