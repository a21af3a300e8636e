pub mod Examples
pub mod Fences
pub mod TvmFences
