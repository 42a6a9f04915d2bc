pub mod CountingLemmas
pub mod PartLemmas
