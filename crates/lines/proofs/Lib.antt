pub mod Puts
pub mod Sinks
pub mod Digits
pub mod Turns
