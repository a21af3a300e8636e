pub mod Changes
pub mod Entries
pub mod Lacked
pub mod LawfulTables
pub mod Links
pub mod MapStores
pub mod Walks
