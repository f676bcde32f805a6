pub mod Soundness
pub mod Reading
pub mod Forms
pub mod Sections
