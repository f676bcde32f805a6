pub mod Groups
pub mod Zeros
