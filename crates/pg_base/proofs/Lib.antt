pub mod Members
pub mod WalkLemmas
pub mod BestLemmas
pub mod ArcLemmas
pub mod KeyLemmas
mod ExampleWalks
pub mod KeyedRows
