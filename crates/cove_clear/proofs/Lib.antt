mod ExampleProofs
mod Zeroing
pub mod Counting
pub mod Going
