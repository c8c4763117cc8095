pub mod Lists
pub mod Tally
pub mod Bounds
