pub mod Tasks
pub mod Steps
pub mod Entries
pub mod Cells
pub mod Turns
pub mod Runs
pub mod Setups
pub mod Inputs
