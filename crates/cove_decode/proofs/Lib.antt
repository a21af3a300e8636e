pub mod AgainLemmas
pub mod ExampleWords
pub mod FieldLemmas
pub mod OpcodeLemmas
pub mod RoundLemmas
