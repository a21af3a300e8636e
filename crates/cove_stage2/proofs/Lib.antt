mod ClearLemmas
mod EntryLemmas
pub mod LeafLemmas
pub mod LinkLemmas
pub mod LackedLemmas
pub mod LackedParts
pub mod LawfulLemmas
pub mod MapPlaces
pub mod RestLemmas
pub mod SharedWords
mod WayLemmas
pub mod ZeroLemmas
