pub mod Run
pub mod Building
pub mod Sections
pub mod Assemble
pub mod Display
pub mod Demand2
