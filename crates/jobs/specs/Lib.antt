pub mod JobText
pub mod JobOutcome
