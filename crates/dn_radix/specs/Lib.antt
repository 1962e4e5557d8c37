pub mod Built
pub mod Found
pub mod Laws
pub mod Terms
pub mod Tree
pub mod Walked
