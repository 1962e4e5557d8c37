pub mod Done
pub mod Faults
pub mod Grant
pub mod Refusal
pub mod Terms
