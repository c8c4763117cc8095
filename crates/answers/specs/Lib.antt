pub mod Types
pub mod Numbers
