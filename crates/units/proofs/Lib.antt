pub mod BigEndian
pub mod Held
pub mod Forms
pub mod Refusals
