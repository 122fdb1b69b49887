pub mod Header
pub mod Layout
pub mod Place
pub mod Types
