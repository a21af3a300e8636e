pub mod FileTables
pub mod Masks
