pub mod Kept
pub mod Listed
pub mod Onward
pub mod Rows
pub mod Runs
pub mod Spans
pub mod Strands
pub mod Terms
