mod BoundRows
pub mod CappingLemmas
pub mod CountingLemmas
pub mod KeepingLemmas
pub mod KindLemmas
pub mod MeetingLemmas
pub mod PlaceLemmas
pub mod RaisingLemmas
pub mod RestrictionLemmas
