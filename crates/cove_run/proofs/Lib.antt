pub mod EndingLemmas
pub mod HistoryLemmas
pub mod PhaseLemmas
pub mod PrintLemmas
pub mod ReadableEntries
pub mod TopLemmas
pub mod WorkedLemmas
