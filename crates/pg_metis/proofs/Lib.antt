pub mod AddedPieces
pub mod AheadContent
pub mod GraphLemmas
pub mod HeaderLemmas
pub mod NeighbourLemmas
pub mod AscendingLemmas
pub mod NumberLemmas
pub mod OneGraph
pub mod ReadingLemmas
pub mod RefusalLemmas
pub mod RowLemmas
pub mod ToldLemmas
pub mod GatherLemmas
pub mod BatchLemmas
mod ListLemmas
mod SameMembers
mod HeaderFaults
mod LineFaults
pub mod FaultLemmas
mod EdgeArcs
mod LineParts
mod ContentLemmas
pub mod FileFromEdges
pub mod FileLemmas
mod EdgesFromArcs
mod MirrorFaults
mod GraphLines
pub mod FaultLaws
mod LinesInOrder
pub mod StableSorts
pub mod Digits
pub mod Mapped
pub mod NamedArcs
pub mod Cursors
pub mod Splitting
pub mod Marking
pub mod MirrorLemmas
pub mod Weights
pub mod LowerEdges
pub mod Runs
pub mod Matching
pub mod Settled
pub mod PairedEdges
pub mod AscendingEdges
pub mod RangesMore
pub mod Cutting
mod PartLines
pub mod ParsedLines
pub mod ParsedPieces
pub mod PartsLemmas
pub mod PartsReadingLemmas
pub mod PartsRefusals
pub mod PartsTexts
