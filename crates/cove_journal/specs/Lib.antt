pub mod Forms
pub mod Journals
pub mod Lines
pub mod Reading
