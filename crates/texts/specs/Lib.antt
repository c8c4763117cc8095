pub mod Types
pub mod Line
pub mod Made
pub mod Text
pub mod Form
pub mod Steps
