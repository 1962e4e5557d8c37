pub mod Allowed
pub mod Done
