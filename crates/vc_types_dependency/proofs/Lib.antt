pub mod InstanceRows
pub mod TwiceLemmas
pub mod StandingLemmas
