pub mod Joining
pub mod Leaving
pub mod Meeting
pub mod Noting
pub mod Seating
