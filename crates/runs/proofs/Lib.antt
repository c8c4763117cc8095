pub mod Laws
pub mod Notes
pub mod Going
pub mod Turning
pub mod Unique
