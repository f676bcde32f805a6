pub mod Calls
pub mod AtOnce
pub mod Alone
pub mod Lists
pub mod Answers
