mod UpAndDown
mod RowsMore
mod HoldersMore
mod Sharings
mod Ascending
mod PartsOf
mod Directed
mod Taking
mod Indexed
mod BlockSorts
mod BlockRows
mod Chunks
mod Degrees
mod SizedRows
mod Keeping
mod TakenRows
mod Starts
mod SharesOf
mod RankSets
mod HeldBySets
mod SideBySide
mod SplitBySets
mod Members
mod GhostLists
mod HolderRows
mod PushHolders
mod HolderCounts
mod Homes
mod HomeSets
pub mod MirrorLists
pub mod MirrorHoldings
pub mod MirrorGhosts
pub mod Mirror
pub mod SlotTables
pub mod FewGhosts
pub mod Incident
