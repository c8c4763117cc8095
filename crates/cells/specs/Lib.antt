pub mod Types
pub mod Machine
pub mod Setup
pub mod Apply
pub mod Free
