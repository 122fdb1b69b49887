pub mod ClientHello
pub mod Hello
pub mod ServerHello
