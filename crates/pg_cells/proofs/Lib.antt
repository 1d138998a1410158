mod MirrorRefreshes
pub mod Mirror
mod BackwardLists
mod BackwardSteps
mod BackwardRounds
mod BackwardBodies
mod Backward
mod ForwardGroups
mod ForwardRounds
mod ForwardPhases
mod ForwardSender
mod ForwardOwner
mod Forward
mod Owing
mod Holding
mod RefreshLists
mod Padded
pub mod NextSends
mod Synchronizes
pub mod Example
