pub mod Reading
pub mod Damages
pub mod Helds
pub mod Unreadable
pub mod Writing
