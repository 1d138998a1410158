pub mod ForestLaws
pub mod ShortWalks
pub mod Phases
pub mod EdgeKeys
pub mod Example
