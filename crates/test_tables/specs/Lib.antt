pub mod Desk
pub mod Slots
pub mod Terms
