pub mod Bytes
pub mod Image
pub mod Laws
pub mod Reading
pub mod Terms
