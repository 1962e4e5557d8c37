pub mod Sky
pub mod Terms
