pub mod Sharing
pub mod Blocks
pub mod BlockLaws
pub mod Owners
pub mod OwnerLaws
pub mod Seats
pub mod Tables
