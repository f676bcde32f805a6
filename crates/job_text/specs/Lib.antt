pub mod JobAnswers
pub mod Printed
