pub mod Numbers
pub mod Reference
pub mod Form
pub mod Replies
pub mod Reply
