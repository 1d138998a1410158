pub mod AheadLemmas
pub mod NumberLemmas
pub mod ReaderLemmas
pub mod WordLemmas
