pub mod Parts
pub mod Passes
pub mod Plays
pub mod Ruled
