pub mod Shipped
