pub mod Names
pub mod Rows
pub mod Statement
pub mod ReadBack
pub mod Dump
pub mod Spelled
pub mod Printable
pub mod Terms
