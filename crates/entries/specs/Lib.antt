pub mod Types
pub mod Entry
pub mod Schedule
pub mod Order
pub mod Asking
