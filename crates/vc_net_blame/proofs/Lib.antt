pub mod CollidingLemmas
pub mod CulpritLaws
pub mod RangeLemmas
