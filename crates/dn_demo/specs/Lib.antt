pub mod Terms
pub mod Text
pub mod Summary
