pub mod Types
pub mod Turned
