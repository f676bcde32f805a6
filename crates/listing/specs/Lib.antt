pub mod Listing
pub mod Answer
pub mod ListingAnswers
pub mod Room
