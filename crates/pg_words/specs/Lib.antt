pub mod Built
pub mod CommandLine
pub mod Examples
pub mod Needs
pub mod Plan
