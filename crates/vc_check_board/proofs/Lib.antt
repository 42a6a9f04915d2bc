pub mod BoardLemmas
pub mod ClearLemmas
