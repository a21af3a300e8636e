pub mod GuestMaps
pub mod Rows
pub mod Standing
