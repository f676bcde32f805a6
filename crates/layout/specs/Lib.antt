pub mod Layout
pub mod Passes
pub mod Conditions
pub mod ConditionLaws
pub mod Shortest
pub mod Answer
pub mod Tight
