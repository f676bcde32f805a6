pub mod JobNumbers
pub mod JobAlone
pub mod JobExamples
pub mod JobShortest
