pub mod View
pub mod Section
