pub mod MineLemmas
pub mod MarkLemmas
pub mod PostLemmas
pub mod MemberLemmas
pub mod PairLemmas
pub mod EndingLemmas
pub mod RollLemmas
