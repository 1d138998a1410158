pub mod Best
pub mod Parts
pub mod LocalRelax
pub mod Relaxed
pub mod Relaxation
pub mod Labels
pub mod Example
pub mod Marks
