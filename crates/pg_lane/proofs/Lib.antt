pub mod Order
pub mod Places
pub mod Moves
pub mod Writing
pub mod Reading
pub mod Meeting
