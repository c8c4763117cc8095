pub mod Types
pub mod Counts
pub mod Run
pub mod OneEntry
pub mod Input
