pub mod Steps
pub mod Sequences
pub mod Examples
pub mod Opcodes
pub mod Walks
pub mod Lands
