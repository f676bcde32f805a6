pub mod JobBytes
pub mod JobSteps
pub mod JobLoops
pub mod JobCalls
pub mod JobBuilds
