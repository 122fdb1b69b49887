pub mod Hmac
pub mod Prf
pub mod Secrets
pub mod Counts
pub mod Inner
