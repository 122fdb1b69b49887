pub mod FixedMessages
pub mod KeyExchanges
pub mod NewSessionTickets
