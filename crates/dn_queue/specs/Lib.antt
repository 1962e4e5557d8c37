pub mod Changing
pub mod Queue
pub mod Room
pub mod Terms
