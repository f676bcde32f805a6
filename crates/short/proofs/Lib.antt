pub mod Whole
pub mod Digits
pub mod Ways
pub mod Judged
