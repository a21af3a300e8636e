pub mod CallExamples
pub mod Examples
pub mod LifeExamples
pub mod RunExamples
pub mod StateExamples
