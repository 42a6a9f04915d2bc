pub mod FreshLemmas
pub mod ReadingLemmas
