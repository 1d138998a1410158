pub mod FilesByPlace
pub mod Pieces
pub mod Writes
