pub mod Decimal
pub mod Lines
pub mod Put
pub mod Sink
