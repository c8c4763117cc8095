pub mod Benches
pub mod Histories
pub mod Schedules
