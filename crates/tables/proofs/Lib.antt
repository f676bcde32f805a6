pub mod Standing
pub mod TableLaws
pub mod MarkMaps
pub mod Turns
pub mod Checks
pub mod Searches
