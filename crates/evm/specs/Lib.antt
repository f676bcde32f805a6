pub mod YellowPaper
pub mod Walk
pub mod Opcodes
pub mod Landing
