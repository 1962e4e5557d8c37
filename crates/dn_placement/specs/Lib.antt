pub mod Exposure
pub mod Keys
pub mod Order
pub mod Placement
pub mod Records
pub mod Roles
pub mod Slots
pub mod Terms
