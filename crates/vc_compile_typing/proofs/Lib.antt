pub mod FindingLemmas
pub mod SkippingLemmas
