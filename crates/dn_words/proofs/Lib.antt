pub mod CommandLine
pub mod Dashed
