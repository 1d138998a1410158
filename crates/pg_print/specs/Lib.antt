pub mod Columns
pub mod FaultLines
pub mod FaultsFrom
pub mod Forests
pub mod Lines
pub mod Summaries
