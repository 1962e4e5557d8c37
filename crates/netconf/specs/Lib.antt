pub mod Shipped
pub mod Terms
