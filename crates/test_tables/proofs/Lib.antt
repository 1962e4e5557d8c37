mod Held
pub mod Keeping
pub mod Owns
pub mod Parts
