pub mod Laws
pub mod Reading
pub mod Writing
pub mod Unique
