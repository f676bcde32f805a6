pub mod Bounds
pub mod Unpacking
pub mod ByNumber
