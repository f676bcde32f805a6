pub mod Adds
pub mod Forms
pub mod Bounds
pub mod Unpacking
