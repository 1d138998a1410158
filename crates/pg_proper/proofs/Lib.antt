pub mod PassLemmas
pub mod Bounds
pub mod Outcomes
pub mod Rounds
pub mod FirstFit
pub mod Endings
pub mod ExampleRun
pub mod LoneRun
