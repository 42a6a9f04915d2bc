pub mod SharingLemmas
pub mod SkippingLemmas
