pub mod Rows
pub mod Answer
pub mod Unique
