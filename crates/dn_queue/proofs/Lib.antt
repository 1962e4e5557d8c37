pub mod Changed
pub mod Events
pub mod Ready
pub mod Slots
