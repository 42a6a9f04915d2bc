pub mod CitingLemmas
pub mod ClashLemmas
pub mod FamilyLemmas
pub mod FollowingLemmas
