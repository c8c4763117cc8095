pub mod Lists
pub mod Tally
