pub mod Over
pub mod First
