pub mod Closing
pub mod Events
pub mod Examples
pub mod Seats
