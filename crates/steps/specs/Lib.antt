pub mod Types
pub mod Table
