pub mod Lexed
pub mod Classes
pub mod Marks
pub mod Numbers
pub mod Words
pub mod Going
pub mod Skipped
pub mod Counting
