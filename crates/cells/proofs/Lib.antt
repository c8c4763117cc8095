pub mod Decide
pub mod Written
pub mod Fresh
pub mod Setups
pub mod Ranges
pub mod Untested
pub mod Unique
