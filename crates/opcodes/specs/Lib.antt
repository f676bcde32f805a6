pub mod Text
pub mod Names
