pub mod Types
pub mod Phases
pub mod Records
pub mod Calls
pub mod Holders
