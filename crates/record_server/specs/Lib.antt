pub mod Connection
pub mod Answering
pub mod Joining
pub mod Taking
pub mod Sending
pub mod InnerFlight
pub mod InnerProgress
pub mod InnerTaking
