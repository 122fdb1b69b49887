pub mod Copies
pub mod Joining
pub mod Distinct
pub mod Equal
pub mod Every
pub mod Parts
pub mod Tests
pub mod Walks
