pub mod Terms
pub mod Drafts
pub mod Commands
pub mod Expand
pub mod Machine
pub mod Finish
