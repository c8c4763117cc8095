pub mod Picks
pub mod Unique
