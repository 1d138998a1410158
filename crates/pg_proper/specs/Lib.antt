pub mod Passes
pub mod PassLaws
pub mod Runs
pub mod RunLaws
pub mod Example
