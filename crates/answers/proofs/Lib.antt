pub mod Numbers
pub mod Unique
