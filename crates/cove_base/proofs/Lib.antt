mod TextRows
pub mod CallLemmas
pub mod HartPlaceLemmas
pub mod HostWalkLemmas
pub mod JoinedWords
pub mod LineLinkLemmas
pub mod ScriptLimits
pub mod SlotStores
pub mod StoreLemmas
pub mod TableLemmas
pub mod TreeLemmas
pub mod TreeStores
mod CompactEntryLemmas
