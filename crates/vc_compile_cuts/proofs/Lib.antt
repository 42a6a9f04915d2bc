pub mod CuttingLemmas
pub mod MarkLemmas
pub mod TableLemmas
