pub mod ExamplePlans
pub mod MemoryLemmas
pub mod UsableLemmas
