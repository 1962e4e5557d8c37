pub mod Allowed
pub mod Founds
pub mod Leasts
pub mod Taken
