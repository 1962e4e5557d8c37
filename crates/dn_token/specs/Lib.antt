pub mod Terms
pub mod Token
pub mod Lexing
pub mod Words
pub mod Faults
pub mod Going
pub mod Ahead
pub mod Cursor
