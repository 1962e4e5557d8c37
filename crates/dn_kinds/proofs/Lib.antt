pub mod Gates
pub mod Lawful
