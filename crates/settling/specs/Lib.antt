pub mod Settle
pub mod SettlingAnswers
pub mod SectionWalk
pub mod SettlingLeaves
pub mod SettlingShortest
pub mod TightSettling
