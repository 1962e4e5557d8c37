pub mod Answered
pub mod Fields
pub mod Numbers
pub mod Places
pub mod Sized
pub mod Told
pub mod Zeros
