pub mod Headers
pub mod Layouts
pub mod Places
pub mod Puts
