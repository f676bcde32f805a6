pub mod Tried
pub mod Tests
