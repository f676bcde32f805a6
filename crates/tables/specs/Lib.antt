pub mod TableTests
pub mod TableAnswers
pub mod MarkMap
pub mod TableWalk
