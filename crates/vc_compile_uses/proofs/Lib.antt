pub mod GrowingLemmas
pub mod MarkLemmas
pub mod UseLemmas
