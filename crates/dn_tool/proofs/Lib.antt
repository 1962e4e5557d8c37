pub mod Demos
pub mod Inputs
pub mod NodeFaults
pub mod Refusals
pub mod Reread
pub mod WalkFaults
pub mod Unanswered
