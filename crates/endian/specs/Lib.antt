pub mod Number
pub mod Vector
