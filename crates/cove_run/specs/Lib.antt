pub mod Printing
pub mod Threads
pub mod TopCall
pub mod Working
