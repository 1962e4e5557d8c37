pub mod Refusal
pub mod Route
pub mod Search
pub mod Terms
pub mod Vectors
