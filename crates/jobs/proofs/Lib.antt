pub mod JobMade
pub mod JobTexts
pub mod JobReplies
