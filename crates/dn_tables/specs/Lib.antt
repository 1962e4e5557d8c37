pub mod Placement
pub mod Set
pub mod Sizes
pub mod Terms
pub mod Uses
pub mod Writes
