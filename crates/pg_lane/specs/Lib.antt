pub mod EndLater
pub mod Later
pub mod Ring
pub mod Settled
