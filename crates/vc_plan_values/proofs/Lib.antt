pub mod GrainLemmas
pub mod SizeLemmas
pub mod StoredLemmas
pub mod TermLemmas
