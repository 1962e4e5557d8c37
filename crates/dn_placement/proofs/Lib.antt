pub mod Hops
pub mod Keys
pub mod Order
