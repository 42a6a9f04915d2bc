pub mod BesideLemmas
pub mod FindingLemmas
pub mod KeyLemmas
pub mod PartLemmas
pub mod RangeLemmas
pub mod ReadingLemmas
pub mod SetLemmas
