pub mod FindLemmas
pub mod LyingLemmas
pub mod OverlayLemmas
pub mod PlaceLemmas
pub mod RunLemmas
pub mod StageLaws
pub mod WritingLemmas
