pub mod Put
pub mod Sets
pub mod Lift
pub mod Once
pub mod Validate
