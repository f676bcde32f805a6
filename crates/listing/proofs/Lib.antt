pub mod Lengths
pub mod Added
pub mod Every
pub mod SectionLines
pub mod ListingAnswers
pub mod Examples
