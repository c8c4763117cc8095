pub mod Figure1
pub mod Histories
pub mod Counts
pub mod Calls
pub mod Validate
pub mod Engine
