pub mod Absorb
pub mod Faults
pub mod Limits
pub mod Past
pub mod Split
pub mod Terms
pub mod Views
