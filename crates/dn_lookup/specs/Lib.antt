pub mod Images
pub mod Lookup
pub mod Terms
