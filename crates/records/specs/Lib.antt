pub mod Record
pub mod Store
pub mod Damage
pub mod Held
pub mod Sections
