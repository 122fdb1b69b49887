pub mod Fixed
pub mod KeyExchange
pub mod NewSessionTicket
