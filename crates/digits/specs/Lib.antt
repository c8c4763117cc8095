pub mod Types
pub mod Decimal
