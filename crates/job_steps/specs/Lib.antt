pub mod JobFormat
pub mod JobCalls
pub mod JobBuild
