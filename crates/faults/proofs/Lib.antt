pub mod Legal
pub mod Rows
pub mod Faults
pub mod Ranges
