pub mod Endings
pub mod Mine
pub mod Paired
pub mod Posts
pub mod Votes
pub mod Shown
