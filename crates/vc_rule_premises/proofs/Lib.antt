pub mod CitedLaws
pub mod CitingLemmas
pub mod DecidingLaws
pub mod DecidingRows
pub mod SayingLaws
pub mod SayingRows
pub mod SufficingLaws
